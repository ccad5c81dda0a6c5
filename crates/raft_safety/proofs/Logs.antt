-- Prefixes of logs.
use Rattle.std.proofs.Common.{◌≡◌, ◌≤◌, ◌<◌, ◌⊎◌, [], ◌∷◌, length, refl, sym, ap, subst, inl, inr, arith}
use Rattle.std.proofs.lemmas.Bool.{cases_lt, cond-true, cond-false}
use Rattle.std.proofs.lemmas.Bool.Decides.{nat_tests}
use Rattle.raft_safety.specs.Logs.{Log, IsPrefix, longer}

pub IsPrefix-refl : (log : Log) → IsPrefix log log
IsPrefix-refl [] = refl
IsPrefix-refl (entry ∷ log) = inl refl

pub IsPrefix-empty : (log : Log) → IsPrefix [] log
IsPrefix-empty [] = refl
IsPrefix-empty (entry ∷ log) = inr (IsPrefix-empty log)

pub IsPrefix-trans : (a b c : Log) → IsPrefix a b → IsPrefix b c → IsPrefix a c
IsPrefix-trans a b [] p q = subst (IsPrefix a) q p
IsPrefix-trans a b (entry ∷ c) p (inl q) = subst (IsPrefix a) q p
IsPrefix-trans a b (entry ∷ c) p (inr q) = inr (IsPrefix-trans a b c p q)

-- two prefixes of one log: one is a prefix of the other
pub IsPrefix-compare : (a b log : Log) → IsPrefix a log → IsPrefix b log → IsPrefix a b ⊎ IsPrefix b a
IsPrefix-compare a b [] p q = inl (subst (λ (x : Log). IsPrefix x b) (sym p) (IsPrefix-empty b))
IsPrefix-compare a b (entry ∷ log) (inl p) q = inr (subst (IsPrefix b) (sym p) q)
IsPrefix-compare a b (entry ∷ log) (inr p) (inl q) = inl (subst (IsPrefix a) (sym q) (inr p))
IsPrefix-compare a b (entry ∷ log) (inr p) (inr q) = IsPrefix-compare a b log p q

pub IsPrefix-length : (a log : Log) → IsPrefix a log → length a ≤ length log
IsPrefix-length a [] p = let e : length a ≡ 0 = ap length p in omega arith
IsPrefix-length a (entry ∷ log) (inl p) = let e : length a ≡ length (entry ∷ log) = ap length p in omega arith
IsPrefix-length a (entry ∷ log) (inr p) = let h : length a ≤ length log = IsPrefix-length a log p in omega arith

-- a prefix that is as long is the log
pub IsPrefix-whole : (a log : Log) → IsPrefix a log → length log ≤ length a → a ≡ log
IsPrefix-whole a [] p long = p
IsPrefix-whole a (entry ∷ log) (inl p) long = p
IsPrefix-whole a (entry ∷ log) (inr p) long = let h : length a ≤ length log = IsPrefix-length a log p in absurd (omega arith)

-- of two parts of a log, the shorter is a part of the longer
pub shorter-prefix : (a b log : Log) → IsPrefix a log → IsPrefix b log → length a ≤ length b → IsPrefix a b
shorter-prefix a b log p q short = grind (arith, IsPrefix-compare, IsPrefix-whole, IsPrefix-refl)

pub IsPrefix-same_length : (a b log : Log) → IsPrefix a log → IsPrefix b log → length a ≡ length b → a ≡ b
IsPrefix-same_length a b log p q same = grind (arith, IsPrefix-compare, IsPrefix-whole)

-- what holds of the longer of two logs, by cases
pub longer-each : (P : Log → Type 0) (one other : Log) → (length one < length other → P other) → (length other ≤ length one → P one) → P (longer one other)
longer-each P one other second first = grind (arith, cases_lt, cond-true, nat_tests, cond-false)
