-- Walks over groups and over their names.
use Rattle.std.proofs.Common.{◌≡◌, ◌==◌, ℕ, zero, suc, ◌+◌, ◌-◌, ◌<◌, ◌≤◌, false, List, [], ◌∷◌, ◌++◌, length, get_or, take, drop, refl, sym, ap, subst, ◌∙◌, inl, inr, arith}
use Rattle.std.proofs.lemmas.Bool.{false≢true}
use Rattle.std.proofs.lemmas.List.{append_assoc, append-nil, take_all}
use Rattle.cd_base.specs.Keys.{key_with, negated}
use Rattle.cd_base.specs.Lists.{OneOf}
use Rattle.cd_base.specs.declared.answer.Answer.{Answer}
use Rattle.cd_base.specs.declared.normal.Normal.{Normal}
use Rattle.cd_context.specs.declared.facts.Note.{Note}
use Rattle.cd_saturation.specs.Decided.{IsDecided, Replaces}
use Rattle.cd_saturation.specs.Groups.{halves, key_of, starts_of, weight, weights, with_negated}
use Rattle.cd_saturation.specs.Saturation.{start_at}
use Rattle.cd_saturation.specs.declared.group.Group.{Group}
use Rattle.cd_saturation.proofs.Weights.{halves_lighter, weights_join}

-- a list that is walked on from its head
pub walked : {I : Type 0} (rest : List I) (k : ℕ) (x : I) → k ≡ length rest → 1 ≤ length rest → x ≡ get_or rest 0 x → rest ≡ x ∷ take (k - 1) (drop 1 rest)
walked [] k x e l is = absurd (omega arith)
walked {I} (y ∷ ys) k x e l is =
    let left : take (k - 1) ys ≡ ys = take_all (k - 1) ys (omega (arith, e)) in
    ap (λ (z : I). z ∷ ys) (sym is) ∙ ap (λ (l : List I). x ∷ l) (sym left)

pub head_in : {I : Type 0} (rest : List I) (x : I) → 1 ≤ length rest → x ≡ get_or rest 0 x → OneOf x rest
head_in [] x l is = absurd (omega arith)
head_in (y ∷ ys) x l is = inl is

nil_from_few : {I : Type 0} (rest : List I) → length rest < 1 → rest ≡ []
nil_from_few [] h = refl
nil_from_few (x ∷ xs) h = absurd (omega arith)

-- ---- the key of a group

pub names_go : (key more : List ℕ) (rest : List ℕ) (k name : ℕ) (all : List ℕ) → k ≡ length rest → 1 ≤ length rest → name ≡ get_or rest 0 name → more ≡ key_with (negated name) key → with_negated key rest ≡ all
    → with_negated more (take (k - 1) (drop 1 rest)) ≡ all
names_go key more rest k name all e l is m h =
    ap (λ (z : List ℕ). with_negated z (take (k - 1) (drop 1 rest))) m ∙ (ap (λ (z : List ℕ). with_negated key z) (sym (walked rest k name e l is)) ∙ h)

pub names_end : (key rest all : List ℕ) → length rest < 1 → with_negated key rest ≡ all → key ≡ all
names_end key rest all l h = ap (λ (z : List ℕ). with_negated key z) (sym (nil_from_few rest l)) ∙ h

-- ---- the messages of groups

pub starts_go : (count : ℕ) (start new all : List (ℕ × Note)) (rest : List Group) (k : ℕ) (g : Group) → k ≡ length rest → 1 ≤ length rest → g ≡ get_or rest 0 g
    → new ≡ start ++ start_at count (key_of g.class g.names) ∷ [] → start ++ starts_of count rest ≡ all → new ++ starts_of count (take (k - 1) (drop 1 rest)) ≡ all
starts_go count start new all rest k g e l is n h =
    ap (λ (z : List (ℕ × Note)). z ++ starts_of count (take (k - 1) (drop 1 rest))) n
    ∙ (append_assoc start (start_at count (key_of g.class g.names) ∷ []) (starts_of count (take (k - 1) (drop 1 rest)))
    ∙ (ap (λ (z : List Group). start ++ starts_of count z) (sym (walked rest k g e l is)) ∙ h))

pub starts_end : (count : ℕ) (start all : List (ℕ × Note)) (rest : List Group) → length rest < 1 → start ++ starts_of count rest ≡ all → start ≡ all
starts_end count start all rest l h = sym (append-nil start) ∙ (ap (λ (z : List Group). start ++ starts_of count z) (sym (nil_from_few rest l)) ∙ h)

-- ---- the tests of groups

module _ (rest : List Group) (k : ℕ) (g : Group) (e : k ≡ length rest) (l : 1 ≤ length rest) (is : g ≡ get_or rest 0 g) where
  pub later_in : (h : Group) → OneOf h (take (k - 1) (drop 1 rest)) → OneOf h rest
  later_in h m = subst (λ (z : List Group). OneOf h z) (sym (walked rest k g e l is)) (inr m)

  pub each_decided : (n : Normal) (classes : ℕ) (above above_new : List Answer) (groups groups_new : List Group) → Replaces n g above groups above_new groups_new → IsDecided n classes above (groups ++ rest)
      → IsDecided n classes above_new (groups_new ++ take (k - 1) (drop 1 rest))
  each_decided n classes above above_new groups groups_new r d =
      r classes (take (k - 1) (drop 1 rest)) (subst (λ (z : List Group). IsDecided n classes above (groups ++ z)) (walked rest k g e l is) d)

  pub each_lighter : (groups groups_new : List Group) (asked bound : ℕ) → (weights groups + weights rest) + asked ≤ bound + length rest → weights groups_new < weights groups + weight g.names
      → (weights groups_new + weights (take (k - 1) (drop 1 rest))) + asked ≤ bound + length (take (k - 1) (drop 1 rest))
  each_lighter groups groups_new asked bound h lighter =
      let later = take (k - 1) (drop 1 rest) in
      let p : weights rest ≡ (0 + weight g.names) + weights later = ap weights (walked rest k g e l is) ∙ weights_join (g ∷ []) later in
      let q : length rest ≡ suc (length later) = ap (λ (z : List Group). length z) (walked rest k g e l is) in
      omega arith

pub all_decided : (n : Normal) (classes : ℕ) (above : List Answer) (groups rest : List Group) → length rest < 1 → IsDecided n classes above (groups ++ rest) → IsDecided n classes above groups
all_decided n classes above groups rest l d =
    subst (λ (z : List Group). IsDecided n classes above z) (append-nil groups) (subst (λ (z : List Group). IsDecided n classes above (groups ++ z)) (nil_from_few rest l) d)

pub all_lighter : (groups rest : List Group) (asked bound : ℕ) → length rest < 1 → (weights groups + weights rest) + asked ≤ bound + length rest → weights groups + asked ≤ bound
all_lighter groups rest asked bound l h = omega arith

-- ---- the names of a group, by their number

pub no_names : (names : List ℕ) (b : ℕ) → length names ≡ 0 → OneOf b names → ⊥
no_names [] b e m = m
no_names (c ∷ cs) b e m = absurd (omega arith)

pub only_name : (names : List ℕ) (b : ℕ) → length names ≡ 1 → b ≡ get_or names 0 b → names ≡ b ∷ []
only_name [] b e is = absurd (omega arith)
only_name (c ∷ []) b e is = ap (λ z. z ∷ []) (sym is)
only_name (c ∷ d ∷ ds) b e is = absurd (omega arith)

pub many_names : (k : ℕ) → (k == 0) ≡ false → (k ≡ 1 → ⊥) → 1 < k
many_names zero e d = absurd (false≢true (sym e))
many_names (suc zero) e d = absurd (d refl)
many_names (suc (suc k)) e d = omega arith

pub pushed_lighter : (class : ℕ) (names : List ℕ) (groups groups_new : List Group) → 1 < length names → groups_new ≡ groups ++ halves class names → weights groups_new < weights groups + weight names
pushed_lighter class names groups groups_new many e =
    let h : weights (halves class names) < weight names = halves_lighter class names many in
    let j : weights groups_new ≡ weights groups + weights (halves class names) = ap weights e ∙ weights_join groups (halves class names) in
    omega arith
