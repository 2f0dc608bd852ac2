-- What a context owes once it has taken a fact.
use Rattle.std.proofs.Common.{◌≡◌, ◌⊎◌, ◌<◌, true, false, List, [], ◌++◌, Some, None, refl, sym, ap, subst, ◌∙◌, inl, inr}
use Rattle.std.proofs.lemmas.Option.{none-some, same_Some}
use Rattle.cd_base.proofs.Members.{member_left, member_right, member_cases}
use Rattle.cd_base.specs.Lists.{OneOf}
use Rattle.cd_base.specs.declared.normal.Normal.{Normal}
use Rattle.cd_context.proofs.Justify.{owed_justified}
use Rattle.cd_context.specs.Contract.{Sends}
use Rattle.cd_base.specs.Counts.{last}
use Rattle.cd_context.specs.Facts.{has_fact, count}
use Rattle.cd_context.specs.Justified.{IsContext, ClosedLocally}
use Rattle.cd_context.specs.Owes.{Owes}
use Rattle.cd_context.specs.State.{State}
use Rattle.cd_context.specs.declared.facts.Fact.{Fact}
use Rattle.cd_context.specs.declared.facts.Note.{Note}
use Rattle.cd_cell.specs.Telling.{Takes}

-- a context that was there takes the fact
pub takes : (n : Normal) (b s : State) (fact : Fact) (out notes : List Note) → out ≡ [] → IsContext n s → ClosedLocally n s → has_fact s fact ≡ true
    → (has_fact b fact ≡ false → (count b < count s) ⊎ (count s ≡ last)) → Sends n (Unit {0}) (Owes n b) s out notes → Takes n (Some b) fact s notes
takes n b s fact out notes empty j closed had risen a =
    let all : notes ≡ a.added = a.follows ∙ ap (λ w. w ++ a.added) empty in record {
      closed = closed;
      had = had;
      risen = λ d e. subst (λ (w : State). has_fact w fact ≡ false → (count w < count s) ⊎ (count s ≡ last)) (same_Some b d e) risen;
      lawful = λ note m. owed_justified n s j closed note (a.only note (subst (λ w. OneOf note w) all m));
      every = λ note o. elim (a.every tt note o) [ inl w ↦ inl (b, refl, w) | inr m ↦ inr (subst (λ w. OneOf note w) (sym all) m) ];
    }

-- a context that has just begun takes the fact
pub begins : (n : Normal) (b s : State) (fact : Fact) (out between notes : List Note) → out ≡ [] → IsContext n b → ClosedLocally n b → IsContext n s → ClosedLocally n s → has_fact s fact ≡ true
    → Sends n (Unit {0}) (λ note. ⊥) b out between → Sends n (Unit {0}) (Owes n b) s between notes → Takes n None fact s notes
begins n b s fact out between notes empty i before j closed had a1 a2 =
    let all : notes ≡ a1.added ++ a2.added = a2.follows ∙ ap (λ w. w ++ a2.added) (a1.follows ∙ ap (λ w. w ++ a1.added) empty) in record {
      closed = closed;
      had = had;
      risen = λ d e. absurd (none-some d e);
      lawful = λ note m. elim (member_cases note a1.added a2.added (subst (λ w. OneOf note w) all m)) [
        | inl p ↦ owed_justified n b i before note (a1.only note p)
        | inr p ↦ owed_justified n s j closed note (a2.only note p)
      ];
      every = λ note o. inr (subst (λ w. OneOf note w) (sym all) (elim (a2.every tt note o) [
        | inl w ↦ elim (a1.every tt note w) [ inl z ↦ absurd z | inr m ↦ member_left note a1.added a2.added m ]
        | inr m ↦ member_right note a1.added a2.added m
      ]));
    }
