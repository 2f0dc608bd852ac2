-- What needs no premise: the plain literals of a key, and the axioms without a left side.
use Rattle.std.proofs.Common.{◌≡◌, ◌⊎◌, ℕ, ◌<◌, ◌==◌, true, List, [], ◌∷◌, ◌++◌, map, length, get_or, refl, sym, ◌∙◌, ap, subst, inl, inr, eqb-true}
use Rattle.std.proofs.lemmas.List.{get_or-map, nil_from_length}
use Rattle.cd_base.specs.Lists.{OneOf, SameSet}
use Rattle.cd_base.specs.declared.normal.Conj.{Conj}
use Rattle.cd_base.specs.declared.normal.Normal.{Normal}
use Rattle.cd_base.proofs.Members.{member_at, member_get}
use Rattle.cd_clause.specs.declared.elem.Elem.{Elem}
use Rattle.cd_clause.specs.declared.elem.Elem.TheVariants.{Plain}
use Rattle.cd_clause.specs.Rules.{Rests, by_init, by_neg, by_con, by_ex, by_back, by_sure, by_dead, by_all}
use Rattle.cd_index.specs.Index.{free_numbers, is_free, left_of}
use Rattle.cd_index.proofs.Numbers.{left_is}
use Rattle.cd_rules.specs.Parts.{IsRightOf, right_of}
use Rattle.cd_rules.specs.Steps.{IsFree, IsInit}
use Rattle.cd_rules.specs.Uses.{FromKey}
use Rattle.cd_rules.proofs.Found.{found_numbers, number_found, filtered_member}
use Rattle.cd_base.proofs.Appending.{OfOne}

-- ---- axioms

abbrev bare : Conj
bare = record { left = []; right = [] }

pub right_is : (axioms : List Conj) (k : ℕ) (x : Conj) → k < length axioms → right_of axioms k ≡ (get_or axioms k x).right
right_is axioms k x lt = get_or-map (λ (a : Conj). a.right) axioms k x [] lt

-- what these axioms add is what the axioms without a left side add
pub free_of_numbers : (n : Normal) (axioms : List Conj) (numbers : List ℕ) (d : List Elem) → axioms ≡ n.n1 → numbers ≡ free_numbers n.n1 → OfOne (IsRightOf axioms) numbers d → IsFree n d
free_of_numbers n axioms numbers d same is q =
    let k = q.0 in
    let isin : OneOf k (free_numbers n.n1) = subst (λ (l : List ℕ). OneOf k l) is q.1 in
    let lt : k < length n.n1 = found_numbers n.n1 (is_free n.n1) (free_numbers n.n1) refl k isin in
    let test : is_free n.n1 k ≡ true = (filtered_member (is_free n.n1) k _ isin).1 in
    let empty : left_of n.n1 k ≡ [] = nil_from_length (left_of n.n1 k) (eqb-true (length (left_of n.n1 k)) 0 test) in
    let right : right_of axioms k ≡ (get_or n.n1 k bare).right = ap (λ (l : List Conj). right_of l k) same ∙ right_is n.n1 k bare lt in
    (get_or n.n1 k bare, member_get n.n1 k bare lt, sym (left_is n.n1 k bare lt) ∙ empty, subst (λ (r : List ℕ). SameSet d (map Plain r)) right q.2)

pub numbers_of_free : (n : Normal) (axioms : List Conj) (numbers : List ℕ) (d : List Elem) → axioms ≡ n.n1 → numbers ≡ free_numbers n.n1 → IsFree n d → OfOne (IsRightOf axioms) numbers d
numbers_of_free n axioms numbers d same is p =
    let x = p.0 in
    let at = member_at x n.n1 p.1 in
    let k = at.0 in
    let lt : k < length n.n1 = at.1 in
    let empty : left_of n.n1 k ≡ [] = left_is n.n1 k x lt ∙ ap (λ (c : Conj). c.left) (at.2 x) ∙ p.2 in
    let right : right_of axioms k ≡ x.right = ap (λ (l : List Conj). right_of l k) same ∙ right_is n.n1 k x lt ∙ ap (λ (c : Conj). c.right) (at.2 x) in
    let isin : OneOf k (free_numbers n.n1) = number_found n.n1 (is_free n.n1) k lt (ap (λ (l : List ℕ). length l == 0) empty) in
    (k, subst (λ (l : List ℕ). OneOf k l) (sym is) isin, subst (λ (r : List ℕ). SameSet d (map Plain r)) (sym right) p.3)

-- each number is that of an axiom
pub free_number_in : (n : Normal) (numbers : List ℕ) (k : ℕ) → numbers ≡ free_numbers n.n1 → OneOf k numbers → k < length n.n1
free_number_in n numbers k is m = found_numbers n.n1 (is_free n.n1) numbers is k m

-- ---- conclusions

no_rests : (n : Normal) (left : List ℕ) (m : List Elem) → Rests n (λ c. ⊥) left m → (left ≡ []) × (m ≡ [])
no_rests n [] m r = (refl, r)
no_rests n (a ∷ left) m r = absurd r.1

-- Init and Con without a left side conclude without a premise
pub key_concludes : (n : Normal) (key : List ℕ) (d : List Elem) → IsInit key d ⊎ IsFree n d → FromKey n key d
key_concludes n key d (inl p) = by_init p.0 p.1 p.2
key_concludes n key d (inr p) = by_con p.0 [] p.1 (subst (λ (l : List ℕ). Rests n (λ c. ⊥) l []) (sym p.2) refl) p.3

-- and nothing else does
pub key_concluded : (n : Normal) (key : List ℕ) (d : List Elem) → FromKey n key d → IsInit key d ⊎ IsFree n d
key_concluded n key d (by_init a m s) = inl (a, m, s)
key_concluded n key d (by_neg a c h e m s) = absurd h
key_concluded n key d (by_con x m k r s) =
    let none_left = no_rests n x.left m r in
    inr (x, k, none_left.0, subst (λ (l : List Elem). SameSet d (l ++ map Plain x.right)) none_left.1 s)
key_concluded n key d (by_ex t c m h e s) = absurd h
key_concluded n key d (by_back t c r k m h e b u s) = absurd h
key_concluded n key d (by_sure t c r k m h e b u s) = absurd h
key_concluded n key d (by_dead c r k h e b s) = absurd h
key_concluded n key d (by_all t c b r k m h e hb eb u s) = absurd h
