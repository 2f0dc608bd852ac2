-- How a core begins.
use Rattle.std.proofs.Common.{◌≡◌, ℕ, inl, inr, false, List, ◌++◌, length, refl, ap, sym, ◌∙◌, subst}
use Rattle.std.proofs.lemmas.List.{append-nil, nil_from_length}
use Rattle.cd_base.specs.Lists.{OneOf}
use Rattle.cd_base.proofs.Members.{member_right, member_cases}
use Rattle.cd_actor.specs.Sends.{sent}
use Rattle.cd_actor.specs.Meaning.{Meaning}
use Rattle.cd_actor.specs.Cells.{AreCells, AreAllLawful, IsOwedCovered}
use Rattle.cd_actor.specs.Owed.{IsOwedInTurn}
use Rattle.cd_core.specs.State.{Runs}
use Rattle.cd_core.specs.Begin.{IsBegun}

-- the cells with the start messages and what is owed
runs_begun : {A M : Type 0} (g : Meaning A M) (cells : List A) (start more pending : List (ℕ × M)) → AreCells g cells
    → AreAllLawful g cells start → AreAllLawful g cells more → IsOwedCovered g cells more → pending ≡ start ++ more → Runs g cells pending
runs_begun g cells start more pending k s l c e = record {
  cells_ok = k;
  lawful = λ x h. elim (member_cases x start more (subst (λ q. OneOf x q) e h)) [ inl i ↦ s x i | inr i ↦ l x i ];
  owed = λ i a at p m w. elim (c i a at p m w) [ inl h ↦ inl h | inr h ↦ inr (subst (λ q. OneOf (p, m) q) (sym e) (member_right (p, m) start more h)) ];
}

-- the start messages went through one by one, `slice` is the cells, and what is owed was appended
pub begun : {A M : Type 0} (g : Meaning A M) (cells slice : List A) (start first rest pending : List (ℕ × M)) → AreCells g cells
    → AreAllLawful g cells start → first ++ rest ≡ start → length rest ≡ 0 → pending ≡ first ++ sent first pending → slice ≡ cells
    → IsOwedInTurn g slice slice (sent first pending) → AreAllLawful g slice (sent first pending) → IsOwedCovered g slice (sent first pending)
    → Runs g cells pending × IsBegun g cells start (record { cells = cells; pending = pending; failed = false })
begun g cells slice start first rest pending k s e n f q o l c =
    let first_is : first ≡ start = sym (append-nil first) ∙ ap (λ r. first ++ r) (sym (nil_from_length rest n)) ∙ e in
    let follows : pending ≡ start ++ sent first pending = f ∙ ap (λ r. r ++ sent first pending) first_is in
    let owed : IsOwedInTurn g cells cells (sent first pending) = subst (λ r. IsOwedInTurn g r r (sent first pending)) q o in
    let lawful : AreAllLawful g cells (sent first pending) = subst (λ r. AreAllLawful g r (sent first pending)) q l in
    let covered : IsOwedCovered g cells (sent first pending) = subst (λ r. IsOwedCovered g r (sent first pending)) q c in (
      runs_begun g cells start (sent first pending) pending k s lawful covered follows,
      record { cells_are = refl; more = sent first pending; pending = follows; owed = owed; stands = refl },
    )
