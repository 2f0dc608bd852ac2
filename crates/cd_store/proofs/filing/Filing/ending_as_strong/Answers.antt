use Rattle.std.proofs.Common.{◌≡◌, ℕ, List, true, sym, subst}
use Rattle.cd_base.specs.Lists.{OneOf}
use Rattle.cd_clause.specs.Covering.{is_as_strong}
use Rattle.cd_clause.specs.declared.elem.Elem.{Elem}
use Rattle.cd_store.proofs.Leasts.{ends_in_same, has_each}
use Rattle.cd_store.proofs.filing.Filing.ending_as_strong.Goals as goal

pub returns-in-Exist : goal.returns-in-Exist
returns-in-Exist c = λ e n s u. let h = has_each c.args.self.now n c.in-Exist.role c.in-Exist.key e (subst (λ (w : Elem). is_as_strong e w ≡ true) c.in-Exist.is s) u in c.with_literals.ensures n h.0 h.1

pub returns-in-Plain : goal.returns-in-Plain
returns-in-Plain c = λ e n s u.
    subst (λ (l : List ℕ). OneOf n l) (sym c.ending_in_atom.ensures) (ends_in_same c.args.self.now n c.in-Plain.atom e (subst (λ (w : Elem). is_as_strong e w ≡ true) c.in-Plain.is s) u)
