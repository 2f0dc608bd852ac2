-- What a cell lists as owed.
use Rattle.std.proofs.Common.{ℕ, List, Result, Ok, Err, OnOk, refl, sym, subst}
use Rattle.std.specs.Result.{IsOk}
use Rattle.cd_actor.specs.Sends.{sent, Sends}
use Rattle.cd_base.specs.Lists.{OneOf}
use Rattle.cd_context.specs.declared.facts.Note.{Note}
use Rattle.cd_cell.specs.Cells.{CellState, IsWhole, IsLawfulNote, OwesFrom}
use Rattle.cd_cell.specs.Lawful.{owed_lawful}
use Rattle.cd_cell.specs.Sending.{SendsNotes}
use Rattle.cd_cell.specs.Telling.{AreOwed}

-- what follows where the work was done
pub where_done : {T E : Type 0} (r : Result T E) (Q : Type 0) → (IsOk r → Q) → OnOk r Q
where_done (Ok x) Q f = f refl
where_done (Err y) Q f = tt

module _ (u : CellState) (notes : List Note) (o : AreOwed u.normal u.contexts notes) (Done : Type 0) (out new_out : List (ℕ × Note)) (a : SendsNotes u.cells Done notes out new_out) where
  pub lists_only : (p : ℕ) (m : Note) → OneOf (p, m) (sent out new_out) → OwesFrom u.normal u.cells u.contexts p m
  lists_only p m h =
      let r = a.only p m h in
      let w = o.only m r.0 in
      record { key = w.0; state = w.1; here = w.2; owes = w.3; goes = r.1 }

  pub lists_sends : IsWhole u → Sends (λ p m. IsLawfulNote u.normal u.cells p m) out new_out
  lists_sends w = record { follows = a.follows; each = λ x m. owed_lawful u x.0 x.1 w (lists_only x.0 x.1 m) }

  pub lists_every : Done → (p : ℕ) (m : Note) → OwesFrom u.normal u.cells u.contexts p m → OneOf (p, m) (sent out new_out)
  lists_every done p m f = subst (λ (r : ℕ). OneOf (r, m) (sent out new_out)) (sym f.goes) (a.every done m (o.every f.key f.state f.here m f.owes))
