use Rattle.std.proofs.Common.{◌≡◌, ◌≤◌, ℕ, List, length, get_or, sym, ap, ◌∙◌, subst}
use Rattle.std.proofs.lemmas.List.{get_or_read}
use Rattle.cd_base.specs.declared.normal.Normal.{Normal}
use Rattle.cd_base.specs.declared.normal.Triple.{Triple}
use Rattle.cd_context.specs.Beside.{IsBesideExist}
use Rattle.cd_clause.specs.declared.elem.Elem.TheVariants.{Plain}
use Rattle.cd_store.specs.LookUps.{HasElem}
use Rattle.cd_store.proofs.Gaining.{gain_goes, gain_ends, gain_less}
use Rattle.cd_context.proofs.Besides.{OfUniversal, by_universal}
use Rattle.cd_context.proofs.beside.push_by_universals.Goals as goal

pub universals-preserved : goal.universals-preserved
universals-preserved c =
    let n4 : List Triple = c.args.index.now.normal.n4 in
    let same : c.items-universals.result.now ≡ n4 = c.items-universals.ensures ∙ ap (λ (n : Normal). n.n4) c.normal.ensures in
    let Q : ℕ → ℕ → Type 0 = OfUniversal n4 c.args.store.now.clauses in
    let read : (t : Triple) → c.index-universals-i.result ≡ get_or n4 c.universals.i t
    = λ t. get_or_read c.items-universals.result.now c.universals.i c.index-universals-i.result c.universals-test.true c.index-universals-i.is t ∙ ap (λ (l : List Triple). get_or l c.universals.i t) same in
    gain_goes Q c.universals.i c.args.found.now.items c.universals.found.items c.push_with_atom.new.found.items c.universals.invariant
    (gain_less (Q c.universals.i) (HasElem c.args.store.now.clauses (Plain c.index-universals-i.result.atom)) c.universals.found.items c.push_with_atom.new.found.items
    (λ m q. subst (λ (t : Triple). HasElem c.args.store.now.clauses (Plain t.atom) m) (sym (read q.0 ∙ q.1)) q.2) c.in_ok-push_with_atom.ensures)

pub returns : goal.returns
returns c = gain_ends (OfUniversal c.args.index.now.normal.n4 c.args.store.now.clauses) c.universals.i (length c.args.index.now.normal.n4) c.args.found.now.items c.universals.found.items
    (IsBesideExist c.args.index.now.normal c.args.store.now.clauses) c.universals.invariant (subst (λ (l : List Triple). length l ≤ c.universals.i) (c.items-universals.ensures ∙ ap (λ (n : Normal). n.n4) c.normal.ensures) c.universals-test.false) (by_universal c.args.index.now.normal c.args.store.now.clauses)
