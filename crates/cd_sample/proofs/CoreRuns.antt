-- What a core of one cell keeps from its start message to the cells that it ends with.
use Rattle.std.proofs.Common.{◌≡◌, ℕ, List, [], ◌∷◌, true, refl, sym, ap, subst, arith, inl, inr}
use Rattle.cd_base.specs.Keys.{plain, is_named}
use Rattle.cd_base.specs.Lists.{OneOf}
use Rattle.cd_base.specs.declared.normal.Normal.{Normal}
use Rattle.cd_base.proofs.Members.{member_left}
use Rattle.cd_actor.specs.Cells.{At, IsLawful, AreAllLawful, Had}
use Rattle.cd_actor.specs.Settled.{IsSettled, KeepsFamily}
use Rattle.cd_clause.proofs.Derive.{named_start, from_named}
use Rattle.cd_context.specs.declared.facts.Fact.TheVariants.{Start}
use Rattle.cd_context.specs.declared.facts.Note.{Note}
use Rattle.cd_cell.specs.Cells.{CellState, IsLawfulNote, meaning, place_of}
use Rattle.cd_cell.proofs.Lookups.{has_from, member_of_state}
use Rattle.cd_core.specs.Begin.{IsBegun as IsResumed}
use Rattle.cd_core.specs.State.{CoreState, KeepsAll}
use Rattle.cd_sample.specs.CoreRuns.{IsUnderWay, IsWorked}
use Rattle.cd_saturation.specs.Saturation.{AreNew, start_of}
use Rattle.cd_saturation.proofs.Runs.{of_family}

module _ (n : Normal) (a : ℕ) (named : is_named n a ≡ true) (cells : List CellState) (new : AreNew n 1 cells) (start : List (ℕ × Note)) (is : start ≡ start_of 1 a ∷ []) where
  -- the start message of a named class is lawful for a new cell
  pub one_lawful : AreAllLawful meaning cells start
  one_lawful x m = elim (subst (λ s. OneOf x s) is m) [
    | inl q ↦ subst (λ z. IsLawful meaning cells z) (sym q) (
      omega (arith, new.each),
      λ c at. subst (λ (c : CellState). IsLawfulNote c.normal c.cells (place_of 1 (plain a ∷ [])) (record { key = plain a ∷ []; fact = Start })) (sym (new.are (place_of 1 (plain a ∷ [])) c at)) record {
        below = omega arith;
        goes = refl;
        reachable = from_named a named refl;
        justified = named_start n (plain a ∷ []) a named refl;
      },
    )
    | inr z ↦ absurd z
  ]

  -- a core that begins with both is under way
  pub way_begun : (core : CoreState CellState Note) → IsResumed meaning cells start core → IsUnderWay a core
  way_begun core b = record {
    normal = n;
    named = named;
    family = subst (λ cs. (i : ℕ) (c : CellState) → At cs i c → meaning.family c ≡ (1, n)) (sym b.cells_are) (of_family n 1 cells new);
    start = inr (subst (λ q. OneOf (start_of 1 a) q) (sym b.pending) (member_left (start_of 1 a) start b.more (subst (λ s. OneOf (start_of 1 a) s) (sym is) (inl refl))));
  }

-- what keeps all and the family stays under way
pub way_kept : (a : ℕ) (old new : CoreState CellState Note) → IsUnderWay a old → KeepsAll meaning old.cells old.pending new.cells new.pending → KeepsFamily meaning old.cells new.cells → IsUnderWay a new
way_kept a old new w all family = record { normal = w.normal; named = w.named; family = family (1, w.normal) w.family; start = all (start_of 1 a) w.start }

-- a run from there ends with cells where the class has its context
pub way_ended : (a : ℕ) (core : CoreState CellState Note) (after : List CellState) → IsUnderWay a core → IsSettled meaning core.cells core.pending after → IsWorked a after
way_ended a core after w e =
    let h : Had meaning after (start_of 1 a) = e.had (start_of 1 a) w.start in
    let f = has_from h.0.contexts (record { key = plain a ∷ []; fact = Start }) h.2 in
    record {
      are_cells = e.are_cells;
      named = λ c at. subst (λ (m : Normal). is_named m a ≡ true) (sym (ap (λ (f : ℕ × Normal). f.1) (e.family (1, w.normal) w.family 0 c at))) w.named;
      begun = (h.0, h.1, (f.0, member_of_state h.0.contexts (plain a ∷ []) f.0 f.1));
    }
