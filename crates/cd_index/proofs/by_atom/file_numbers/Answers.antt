use Rattle.std.proofs.Common.{◌≡◌, ℕ, ◌+◌, ◌<◌, true, ◌++◌, [], ◌∷◌, List, Vec, Global, sym, ap, subst, ◌∙◌, arith}
use Rattle.cd_index.specs.Index.{has, left_of}
use Rattle.std.proofs.lemmas.List.{get_or_default}
use Rattle.cd_index.proofs.Numbers.{left_read}
use Rattle.cd_index.proofs.Filing.{IsFiledUpTo, atom_below, filed_none, filed_one, filed_at_start, filed_all}
use Rattle.cd_index.proofs.by_atom.file_numbers.Goals as goal
use Rattle.cd_index.proofs.by_atom.file_numbers.Goals.{in-Some+in_ok-push, in_default}

pub loop-number-init : goal.loop-number-init
loop-number-init c = filed_at_start c.args.axioms.now c.args.atoms c.in_ok-filed.filed.items c.in_ok-filed.ensures

pub index_mut-requires : goal.index_mut-requires
index_mut-requires c =
    let axioms = c.args.axioms.now in
    let i = c.loop-number.number in
    let left : left_of axioms i ≡ c.items.result.now
    = left_read axioms i c.index-axioms-number.result c.loop-number-test.true c.index-axioms-number.is ∙ sym c.items.ensures in
    let lt : c.in-Some.atom < c.args.atoms = atom_below c.args.atoms axioms i c.in-Some.atom c.requires.within (ap (has c.in-Some.atom) left ∙ c.in-Some.ensures) in
    omega (arith, c.loop-number.filed.ok.0, c.loop-number.invariant.exact.each, c.atom.view_is)

pub loop-number-preserved : goal.loop-number-preserved
loop-number-preserved c =
    let axioms = c.args.axioms.now in
    let i = c.loop-number.number in
    let atoms = c.args.atoms in
    let filed = c.loop-number.filed.items in
    let left : left_of axioms i ≡ c.items.result.now
    = left_read axioms i c.index-axioms-number.result c.loop-number-test.true c.index-axioms-number.is ∙ sym c.items.ensures in
    elim c.match-rarest.branch [
      | in-Some+in_ok-push w ↦
          let atom = w.atom.inside.0 in
          let there : has atom (left_of axioms i) ≡ true
          = ap (has atom) left ∙ subst (λ (a : ℕ). has a c.items.result.now ≡ true) (sym w.atom.view_is) w.in-Some.ensures in
          let lt : atom < atoms = atom_below atoms axioms i atom c.requires.within there in
          subst (λ (v : Vec (List ℕ) Global). IsFiledUpTo axioms atoms (i + 1) v.items) (sym w.filed-is)
          (filed_one axioms atoms i filed c.loop-number.invariant atom w.push.new.self there lt
          (w.in_ok-push.ensures.pushed
          ∙ ap (λ (l : List ℕ). l ++ i ∷ []) (w.index_mut.ensures.value ∙ get_or_default filed atom w.index_mut.result.now [] (omega (arith, c.loop-number.invariant.exact.each, lt)))))
      | in_default w ↦
          subst (λ (v : Vec (List ℕ) Global). IsFiledUpTo axioms atoms (i + 1) v.items) (sym w.filed-is)
          (filed_none axioms atoms i filed c.loop-number.invariant (left ∙ w.in_default.ensures))
    ]

pub returns : goal.returns
returns c = filed_all c.args.axioms.now c.args.atoms c.loop-number.number c.loop-number.filed.items c.loop-number.invariant (omega arith)
