-- What the live clauses of a context tell.
use Rattle.std.proofs.Common.{◌≡◌, ◌↔◌, ℕ, true, List, [], ◌∷◌, filter, Some, sym, subst, ◌∙◌}
use Rattle.std.proofs.lemmas.Option.{same_Some}
use Rattle.cd_base.specs.Keys.{plain, is_named}
use Rattle.cd_base.specs.Lists.{OneOf, HasNoRepeats}
use Rattle.cd_base.specs.declared.normal.Normal.{Normal}
use Rattle.cd_clause.specs.declared.elem.Elem.{Elem}
use Rattle.cd_clause.specs.Derivations.{IsSingle}
use Rattle.cd_rules.proofs.Found.{filtered_member, member_filtered}
use Rattle.cd_context.specs.State.{State, live_of}
use Rattle.cd_cell.specs.Cells.{state_at}
use Rattle.cd_cell.specs.Subsumers.{IsReadingOf, IsReadingIn}
use Rattle.cd_cell.specs.declared.reading.Reading.{Reading}
use Rattle.cd_cell.proofs.Puts.{keys_of, member_state}

-- the named atoms among those whose clause alone is live
pub named_of : (n : Normal) (live : List (List Elem)) (atoms singles : List ℕ) → atoms ≡ filter (is_named n) singles
    → ((b : ℕ) → (OneOf b singles → IsSingle live b) × (IsSingle live b → OneOf b singles)) → (b : ℕ) → OneOf b atoms ↔ ((is_named n b ≡ true) × IsSingle live b)
named_of n live atoms singles e exact b = (
  λ m. let w = filtered_member (is_named n) b singles (subst (λ (l : List ℕ). OneOf b l) e m) in (w.1, (exact b).0 w.0),
  λ h. subst (λ (l : List ℕ). OneOf b l) (sym e) (member_filtered (is_named n) b singles ((exact b).1 h.1) h.0),
)

-- what the context that is found tells
pub of_found : (n : Normal) (contexts : List (List ℕ × State)) (a : ℕ) (s : State) (reading : Reading) → HasNoRepeats (keys_of contexts) → Some s ≡ state_at contexts (plain a ∷ [])
    → IsReadingOf n (live_of s) reading → IsReadingIn n contexts a reading
of_found n contexts a s reading apart e h = λ t m.
    subst (λ (w : State). IsReadingOf n (live_of w) reading) (same_Some s t (e ∙ member_state contexts (plain a ∷ []) t apart m)) h
