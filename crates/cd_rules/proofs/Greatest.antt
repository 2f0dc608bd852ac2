-- The greatest element of a clause, in the words of the code: the only one that is eligible.
use Rattle.std.proofs.Common.{◌≡◌, ℕ, List, get_or, sym, subst}
use Rattle.std.proofs.lemmas.List.{get_or_read}
use Rattle.std.specs.List.{remove}
use Rattle.cd_base.specs.Ascending.{Ascending}
use Rattle.cd_base.specs.Lists.{SameSet}
use Rattle.cd_base.specs.declared.normal.Normal.{Normal}
use Rattle.cd_clause.specs.Elements.{is_before, rest, Eligible, IsGreatestAt}
use Rattle.cd_clause.specs.declared.elem.Elem.{Elem}
use Rattle.cd_clause.specs.declared.elem.Elem.TheVariants.{Plain}
use Rattle.cd_clause.proofs.Eligibles.{eligible_one}
use Rattle.cd_rules.proofs.Without.{without_rest}

module _ (n m : Normal) (c es : List Elem) (i : ℕ) (x : Elem) (q : m ≡ n) (g : IsGreatestAt m c i) (e : es ≡ c) (r : x ≡ get_or es i x) where
  read : x ≡ get_or c i (Plain 0)
  read = get_or_read c i x g.within (subst (λ w. x ≡ get_or w i x) e r) (Plain 0)

  pub is_eligible : Eligible n x c
  is_eligible = subst (λ w. Eligible w x c) q (subst (λ w. Eligible m w c) (sym read) g.eligible)

  pub is_only : (f : Elem) → Eligible n f c → f ≡ x
  is_only f el = eligible_one n c f x el is_eligible

  -- what is left of the clause without it
  pub beside : Ascending is_before c → (out : List Elem) → out ≡ remove c i → SameSet out (rest x c)
  beside a out o = subst (λ w. SameSet w (rest x c)) (sym o) (subst (λ w. SameSet (remove c i) (rest w c)) (sym read) (without_rest c i a g.within))

-- in the form of a test: the greatest element is one that is looked for, or that isn't eligible
pub other_greatest : (n : Normal) (c : List Elem) (x e : Elem) → ((f : Elem) → Eligible n f c → f ≡ x) → (x ≡ e → ⊥) → Eligible n e c → ⊥
other_greatest n c x e only differ el = differ (sym (only e el))

-- and it is that
pub found_greatest : (n : Normal) (c out : List Elem) (x e : Elem) → x ≡ e → Eligible n x c → SameSet out (rest x c) → Eligible n e c × SameSet out (rest e c)
found_greatest n c out x e q el s = (subst (λ w. Eligible n w c) q el, subst (λ w. SameSet out (rest w c)) q s)
