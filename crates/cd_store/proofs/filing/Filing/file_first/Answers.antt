use Rattle.std.proofs.Common.{◌≡◌, ◌∷◌, [], List, ℕ, refl, sym, ap, ◌∙◌, subst, inl}
use Rattle.cd_base.specs.Lists.{OneOf}
use Rattle.cd_base.proofs.Members.{member_right}
use Rattle.cd_store.specs.Filing.{KeepsFiled, listed}
use Rattle.cd_store.proofs.Listed.{numbers_of, seen, keeps_new, is_filed}
use Rattle.cd_store.proofs.filing.Filing.file_first.Goals as goal

pub returns-clause-filed : goal.returns-clause-filed
returns-clause-filed c =
    is_filed numbers_of c.self.inside.by_element.entries c.insert.new.self.entries c.args.key c.push.new.self c.in_ok-insert.ensures.updates.0 c.args.number
    (subst (λ (l : List ℕ). OneOf c.args.number l) (sym c.in_ok-push.ensures.ok) (member_right c.args.number c.new-list.result.items (c.args.number ∷ []) (inl refl)))

pub returns-clause-kept : goal.returns-clause-kept
returns-clause-kept c =
    let es = c.self.inside.by_element.entries in
    let none : listed (seen numbers_of es) c.args.key ≡ [] = ap (λ (f : List (ℕ × List ℕ)). listed f c.args.key) c.self.view_is ∙ c.requires in
    subst (λ (f : List (ℕ × List ℕ)). KeepsFiled f (seen numbers_of c.insert.new.self.entries)) c.self.view_is
    (keeps_new numbers_of es c.insert.new.self.entries c.args.key c.push.new.self c.in_ok-insert.ensures.updates.0 none)
