use Rattle.std.proofs.Common.{false, ◌≡◌, [], ◌∷◌, ◌++◌, refl, sym, subst}
use Rattle.cd_context.specs.declared.facts.Fact.TheVariants.{Link}
use Rattle.cd_context.specs.Facts.{has_fact}
use Rattle.cd_context.specs.Justified.{Justified, IsContext, ClosedLocally}
use Rattle.cd_context.proofs.Absorb.{keeps_of, absorbs_of, keeps_link, absorbs_link}
use Rattle.cd_context.proofs.Sent.{sends_moved}
use Rattle.cd_context.proofs.context.Context.absorb_link.Goals as goal

pub returns-in_err-append-clause-keeps : goal.returns-in_err-append-clause-keeps
returns-in_err-append-clause-keeps c =
    let n = c.args.index.now.normal in
    rw c.in_ok-add_link.ensures.ok (keeps_of n _ c.args.self.now _ c.self.view_is (keeps_link n _ c.args.link (c.self.inside.facts.links ++ c.args.link ∷ []) (subst (λ s. IsContext n s) (sym c.self.view_is) c.requires.context) (subst (λ s. ClosedLocally n s) (sym c.self.view_is) c.requires.closed)
    (subst (λ s. Justified n s.key (Link c.args.link.key c.args.link.role)) (sym c.self.view_is) c.requires.justified) (subst (λ s. has_fact s (Link c.args.link.key c.args.link.role) ≡ false) (sym c.self.view_is) c.requires.fresh) refl))

pub returns-clause-keeps : goal.returns-clause-keeps
returns-clause-keeps c =
    let n = c.args.index.now.normal in
    rw c.in_ok-add_link.ensures.ok (keeps_of n _ c.args.self.now _ c.self.view_is (keeps_link n _ c.args.link (c.self.inside.facts.links ++ c.args.link ∷ []) (subst (λ s. IsContext n s) (sym c.self.view_is) c.requires.context) (subst (λ s. ClosedLocally n s) (sym c.self.view_is) c.requires.closed)
    (subst (λ s. Justified n s.key (Link c.args.link.key c.args.link.role)) (sym c.self.view_is) c.requires.justified) (subst (λ s. has_fact s (Link c.args.link.key c.args.link.role) ≡ false) (sym c.self.view_is) c.requires.fresh) refl))

pub returns-clause-ok : goal.returns-clause-ok
returns-clause-ok c =
    let n = c.args.index.now.normal in
    let fact = Link c.args.link.key c.args.link.role in
    rw c.in_ok-add_link.ensures.ok (absorbs_of n _ c.args.self.now fact _ c.args.out.now.items c.append.new.self.items c.self.view_is
    (absorbs_link n _ c.args.link (c.self.inside.facts.links ++ c.args.link ∷ []) (subst (λ s. IsContext n s) (sym c.self.view_is) c.requires.context) (subst (λ s. ClosedLocally n s) (sym c.self.view_is) c.requires.closed)
    (subst (λ s. Justified n s.key fact) (sym c.self.view_is) c.requires.justified) (subst (λ s. has_fact s (Link c.args.link.key c.args.link.role) ≡ false) (sym c.self.view_is) c.requires.fresh) refl c.args.out.now.items c.append.new.self.items
    (sends_moved n _ _ _ _ c.owe_link.new.out.items c.args.out.now.items c.append.new.self.items c.new-notes.ensures.items (c.in_ok-owe_link.ensures c.self.inside.facts.links c.self.inside.facts.backs c.self.inside.facts.sures c.self.inside.facts.deads) refl c.in_ok-append.ensures.items)))
