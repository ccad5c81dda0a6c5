-- A function with another value at one number, and a cluster with another state of a server or of a leader.
use Rattle.std.proofs.Common.{◌≡◌, ℕ, ◌≤◌, true, ap, ◌∙◌, arith, false}
use Rattle.raft_safety.specs.Cluster.{Cluster, Server, Leadership, with_value}
use Rattle.raft_safety.specs.Steps.{with_leadership}
use Rattle.std.specs.Prelude.{nat_eq}
use Rattle.std.proofs.lemmas.Bool.{cases_eq, cond-true, cond-false}
use Rattle.std.proofs.lemmas.Bool.Decides.{nat_tests}

eq_here : (n : ℕ) → nat_eq n n ≡ true
eq_here n = grind (arith, nat_tests)

eq_there : (k n : ℕ) → (k ≡ n → ⊥) → nat_eq k n ≡ false
eq_there k n other = grind (arith, nat_tests)

pub with_value-here : {X : Type 0} (old : ℕ → X) (n : ℕ) (value : X) → with_value old n value n ≡ value
with_value-here old n value = cond-true (nat_eq n n) value (old n) (eq_here n)

pub with_value-there : {X : Type 0} (old : ℕ → X) (n : ℕ) (value : X) (k : ℕ) → (k ≡ n → ⊥) → with_value old n value k ≡ old k
with_value-there old n value k other = cond-false (nat_eq k n) value (old k) (eq_there k n other)

-- what holds of the new value there, and of the old ones elsewhere, holds everywhere
pub with_value-each : {X : Type 0} (P : X → Type 0) (old : ℕ → X) (n : ℕ) (value : X) (k : ℕ) → (k ≡ n → P value) → ((k ≡ n → ⊥) → P (old k)) → P (with_value old n value k)
with_value-each {X} P old n value k here there = grind (arith, cases_eq, with_value-here, with_value-there)

pub with_value-term_rises : (servers : ℕ → Server) (n : ℕ) (value : Server) → (servers n).term ≤ value.term → (k : ℕ) → (servers k).term ≤ (with_value servers n value k).term
with_value-term_rises servers n value order k = grind (arith, with_value-each)

pub with_value-log_stays : (servers : ℕ → Server) (n : ℕ) (value : Server) → (servers n).log ≡ value.log → (k : ℕ) → (servers k).log ≡ (with_value servers n value k).log
with_value-log_stays servers n value is k = grind (arith, with_value-each)

-- what holds of the new state of a leader there, and of the old states everywhere
pub with_leadership-each : (c : Cluster) (t s : ℕ) (new : Leadership) (P : Leadership → Type 0) (t' s' : ℕ) → (t' ≡ t → s' ≡ s → P new) → P (c.leaderships t' s')
    → P ((with_leadership c t s new).leaderships t' s')
with_leadership-each c t s new P t' s' here old = grind (arith, with_value-each)

pub leadership-same : (c : Cluster) (t s t' s' : ℕ) → t' ≡ t → s' ≡ s → c.leaderships t' s' ≡ c.leaderships t s
leadership-same c t s t' s' same_t same_s = ap (λ (q : ℕ). c.leaderships q s') same_t ∙ ap (λ (q : ℕ). c.leaderships t q) same_s

pub with_leadership-here : (c : Cluster) (t s : ℕ) (new : Leadership) → (with_leadership c t s new).leaderships t s ≡ new
with_leadership-here c t s new = grind (arith, with_value-here)
