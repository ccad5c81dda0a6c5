-- How the texts of replies grow.
use Rattle.std.proofs.Common.{◌≡◌, ℕ, zero, suc, ◌+◌, List, [], ◌∷◌, ◌++◌, take, sym, ap, ◌∙◌, add-one, arith}
use Rattle.std.specs.Prelude.{Some, flat_map, slice_get}
use Rattle.std.proofs.lemmas.List.{append_assoc, append-nil}
use Rattle.conf_change.specs.Configuration.{Configuration}
use Rattle.conf_change.specs.Text.{config_text, progress_text}
use Rattle.conf_change.specs.TrackerState.{TrackerState}
use Rattle.ascii_text.specs.Lines.{newline}
use Rattle.conf_change.specs.declared.progress.Progress.{Progress}
use Rattle.conf_session.specs.ReplyTexts.{line, member_line, member_lines, tracker_text}

flat_map-suc : {X : Type 0} (f : X → List ℕ) (xs : List X) (i : ℕ) (x : X) → slice_get xs i ≡ Some x → flat_map f (take (suc i) xs) ≡ flat_map f (take i xs) ++ f x
flat_map-suc f [] i x e = cc
flat_map-suc f (y ∷ xs) zero x e = let same : y ≡ x = cc in ap (λ z. f z ++ []) same ∙ append-nil (f x)
flat_map-suc f (y ∷ xs) (suc i) x e = ap (λ rest. f y ++ rest) (flat_map-suc f xs i x e) ∙ sym (append_assoc (f y) (flat_map f (take i xs)) (f x))

pub flat_map-prefix : {X : Type 0} (f : X → List ℕ) (xs : List X) (i : ℕ) (x : X) → slice_get xs i ≡ Some x → flat_map f (take (i + 1) xs) ≡ flat_map f (take i xs) ++ f x
flat_map-prefix f xs i x e = ap (λ n. flat_map f (take n xs)) (add-one i) ∙ flat_map-suc f xs i x e

-- one member more is appended
pub members-one_more : (old now new : List ℕ) (members : List (ℕ × Progress)) (i id : ℕ) (p : Progress) → slice_get members i ≡ Some (id, p) → now ≡ old ++ flat_map member_line (take i members) →
    new ≡ now ++ line (progress_text id p) → new ≡ old ++ flat_map member_line (take (i + 1) members)
members-one_more old now new members i id p at so_far more =
    more ∙ ap (λ t. t ++ member_line (id, p)) so_far ∙ append_assoc old (flat_map member_line (take i members)) (member_line (id, p))
    ∙ ap (λ t. old ++ t) (sym (flat_map-prefix member_line members i (id, p) at))

-- a configuration, a newline and the members after a text
pub tracker-appended : (old one two new : List ℕ) (tracker : TrackerState) (config : Configuration) → config ≡ tracker.config →
    one ≡ old ++ config_text config → two ≡ one ++ newline → new ≡ two ++ member_lines tracker → new ≡ old ++ tracker_text tracker
tracker-appended old one two new tracker config same first second third = grind (arith, append_assoc)
