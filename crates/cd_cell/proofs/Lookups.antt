-- Contexts by their keys: where keys stand once, a look-up finds the context that is listed.
use Rattle.std.proofs.Common.{◌≡◌, ℕ, true, false, cond, List, [], ◌∷◌, map, Option, Some, None, refl, sym, ap, subst, ◌∙◌, inl, inr}
use Rattle.std.specs.Option.{option_map_or}
use Rattle.std.specs.Cmp.Lexicographic.{same_text}
use Rattle.std.proofs.lemmas.Bool.{cases_Bool, false≢true}
use Rattle.std.proofs.lemmas.Cmp.{nat_list_eq_equiv}
use Rattle.cd_base.specs.Lists.{OneOf, HasNoRepeats}
use Rattle.cd_base.proofs.Members.{member_map}
use Rattle.cd_context.specs.Facts.{has_fact, same_key}
use Rattle.cd_context.specs.State.{State}
use Rattle.cd_context.specs.declared.facts.Note.{Note}
use Rattle.cd_cell.specs.Cells.{state_at, has_note}

same_self : (k : List ℕ) → same_key k k ≡ true
same_self k = nat_list_eq_equiv.refl k

-- the context of a key is found under it
pub state_of_member : (es : List (List ℕ × State)) (k : List ℕ) (s : State) → HasNoRepeats (map (λ e. e.0) es) → OneOf (k, s) es → state_at es k ≡ Some s
state_of_member [] k s a m = absurd m
state_of_member (e ∷ es) k s a (inl h) =
    let q : same_key k e.0 ≡ true = ap (λ (z : List ℕ × State). same_key k z.0) (sym h) ∙ same_self k in
    ap (λ b. cond b (Some e.1) (state_at es k)) q ∙ ap (λ (z : List ℕ × State). Some z.1) (sym h)
state_of_member (e ∷ es) k s a (inr h) = elim (cases_Bool (same_key k e.0)) [
  | inl t ↦ absurd (a.0 (subst (λ z. OneOf z (map (λ (e : List ℕ × State). e.0) es)) (same_text k e.0 (sym t)) (member_map (λ (e : List ℕ × State). e.0) (k, s) es h)))
  | inr f ↦ ap (λ b. cond b (Some e.1) (state_at es k)) f ∙ state_of_member es k s a.1 h
]

-- what is found under a key is listed with it
pub member_of_state : (es : List (List ℕ × State)) (k : List ℕ) (s : State) → state_at es k ≡ Some s → OneOf (k, s) es
member_of_state [] k s h = absurd (false≢true (ap (λ o. option_map_or (λ z. true) o false) h))
member_of_state (e ∷ es) k s h = elim (cases_Bool (same_key k e.0)) [
  | inl t ↦
      let q : Some e.1 ≡ Some s = sym (ap (λ b. cond b (Some e.1) (state_at es k)) t) ∙ h in
      let v : e.1 ≡ s = ap (λ o. option_map_or (λ z. z) o s) q in
      let u : k ≡ e.0 = same_text k e.0 (sym t) in
      inl (λ i. (u i, sym v i))
  | inr f ↦ inr (member_of_state es k s (sym (ap (λ b. cond b (Some e.1) (state_at es k)) f) ∙ h))
]

-- a note that is had is a fact of the context that is found
pub has_from : (es : List (List ℕ × State)) (note : Note) → has_note es note ≡ true → (s : State) × (state_at es note.key ≡ Some s) × (has_fact s note.fact ≡ true)
has_from es note h = from (state_at es note.key) refl
  where
    from : (o : Option State) → state_at es note.key ≡ o → (s : State) × (state_at es note.key ≡ Some s) × (has_fact s note.fact ≡ true)
    from None e = absurd (false≢true (ap (λ o. option_map_or (λ (s : State). has_fact s note.fact) o false) (sym e) ∙ h))
    from (Some s) e = (s, e, ap (λ o. option_map_or (λ (s : State). has_fact s note.fact) o false) (sym e) ∙ h)
