use Rattle.std.proofs.Common.{◌+◌, true, rules, arith, not, [], ◌∷◌, length, sum_by, refl, sym, subst}
use Rattle.cd_meaning.specs.Nodes.{nodes_of}
use Rattle.cd_meaning.specs.Numbered.{is_in_range}
use Rattle.cd_meaning.specs.declared.expression.Expr.TheVariants.{AllOf}
use Rattle.cd_meaning.specs.NormalAxioms.{n4, triple}
use Rattle.std.proofs.lemmas.Result.{IfOk-weaker}
use Rattle.cd_normal.specs.Made.{form, IsGrownBy, Closes, IsUse, minus_rows, some_rows, list_rows, ClosesTwo, rest_rows}
use Rattle.cd_normal.proofs.Making.{arm_name, arm_not_name, arm_some, arm_not_all, arm_meet, arm_join, each_none, each_step, arm_all, arm_rest}
use Rattle.cd_normal.proofs.Sizes.{name_below, meet_below, join_below, nodes_name, nodes_some, nodes_all, nodes_meet, nodes_join, nodes_more_le, below_at}
use Rattle.cd_normal.proofs.Growth.{grown_none, grown_name, grown_first, grown_step, grown_list, grown_rest, room, grown_each, room_each}
use Rattle.cd_normal.proofs.uses.+used.Goals as goal

pub used-returns-then-flipped-clause-is_use : goal.used-returns-then-flipped-clause-is_use
used-returns-then-flipped-clause-is_use t c = IfOk-weaker c.minus_use.result
    (λ x. Closes c.args.maker.now c.minus_use.new.self x (minus_rows c.args.sign x c.in-Name.class))
    (λ x. IsUse c.args.classes c.args.maker.now c.minus_use.new.self c.args.sign (form c.args.flipped c.args.e.now) x)
    (λ x h. arm_not_name c.args.classes c.args.maker.now c.minus_use.new.self c.args.sign c.args.flipped c.args.e.now c.in-Name.class x (name_below c.args.classes c.args.e.now c.in-Name.class (search rules) c.requires.within) (search rules) (search rules) h)
    c.minus_use.ensures.closes

pub used-returns-else-flipped-clause-is_use : goal.used-returns-else-flipped-clause-is_use
used-returns-else-flipped-clause-is_use t c = arm_name c.args.classes c.args.maker.now c.args.sign c.args.flipped c.args.e.now c.in-Name.class (name_below c.args.classes c.args.e.now c.in-Name.class (search rules) c.requires.within) (search rules) (search rules)

pub used-returns-in_ok-y-in-SomeOf-clause-is_use : goal.used-returns-in_ok-y-in-SomeOf-clause-is_use
used-returns-in_ok-y-in-SomeOf-clause-is_use t c = IfOk-weaker c.some_use.result
    (λ x. Closes c.used-else-flipped-2.new.maker c.some_use.new.self x (some_rows c.args.sign x c.in-SomeOf.role c.in_ok-y-in-SomeOf.y))
    (λ x. IsUse c.args.classes c.args.maker.now c.some_use.new.self c.args.sign (form c.args.flipped c.args.e.now) x)
    (λ x h. arm_some c.args.classes c.args.maker.now c.used-else-flipped-2.new.maker c.some_use.new.self c.args.sign c.args.flipped c.args.e.now c.in-SomeOf.part c.in-SomeOf.role x c.in_ok-y-in-SomeOf.y (search rules) (search rules) (search rules) h)
    c.some_use.ensures.closes

pub used-returns-in_ok-y-in-AllOf-clause-is_use : goal.used-returns-in_ok-y-in-AllOf-clause-is_use
used-returns-in_ok-y-in-AllOf-clause-is_use t c = IfOk-weaker c.some_use-then-flipped-3.result
    (λ x. Closes c.used-then-flipped-3.new.maker c.some_use-then-flipped-3.new.self x (some_rows c.args.sign x c.in-AllOf.role c.in_ok-y-in-AllOf.y))
    (λ x. IsUse c.args.classes c.args.maker.now c.some_use-then-flipped-3.new.self c.args.sign (form c.args.flipped c.args.e.now) x)
    (λ x h. arm_not_all c.args.classes c.args.maker.now c.used-then-flipped-3.new.maker c.some_use-then-flipped-3.new.self c.args.sign c.args.flipped c.args.e.now c.in-AllOf.part c.in-AllOf.role x c.in_ok-y-in-AllOf.y (search rules) (search rules) (search rules) h)
    c.some_use-then-flipped-3.ensures.closes

pub used-returns-in_ok-ys-in-Meet-clause-is_use : goal.used-returns-in_ok-ys-in-Meet-clause-is_use
used-returns-in_ok-ys-in-Meet-clause-is_use t c = IfOk-weaker c.list_use.result
    (λ x. Closes c.used_each.new.maker c.list_use.new.self x (list_rows (not c.args.flipped) c.args.sign x c.in_ok-ys-in-Meet.ys.items))
    (λ x. IsUse c.args.classes c.args.maker.now c.list_use.new.self c.args.sign (form c.args.flipped c.args.e.now) x)
    (λ x h. arm_meet c.args.classes c.args.maker.now c.used_each.new.maker c.list_use.new.self c.args.sign c.args.flipped c.args.e.now c.in-Meet.parts x c.in_ok-ys-in-Meet.ys.items (search rules) (search rules) h)
    c.list_use.ensures.closes

pub used-returns-in_ok-ys-in-Join-clause-is_use : goal.used-returns-in_ok-ys-in-Join-clause-is_use
used-returns-in_ok-ys-in-Join-clause-is_use t c = IfOk-weaker c.list_use-in-Join.result
    (λ x. Closes c.used_each-in-Join.new.maker c.list_use-in-Join.new.self x (list_rows c.args.flipped c.args.sign x c.in_ok-ys-in-Join.ys.items))
    (λ x. IsUse c.args.classes c.args.maker.now c.list_use-in-Join.new.self c.args.sign (form c.args.flipped c.args.e.now) x)
    (λ x h. arm_join c.args.classes c.args.maker.now c.used_each-in-Join.new.maker c.list_use-in-Join.new.self c.args.sign c.args.flipped c.args.e.now c.in-Join.parts x c.in_ok-ys-in-Join.ys.items (search rules) (search rules) h)
    c.list_use-in-Join.ensures.closes

pub used_each-loop-part-init : goal.used_each-loop-part-init
used_each-loop-part-init t c = record {
  uses = each_none c.args.classes c.args.maker.now c.args.sign c.new-made.result.items (search rules);
  as_many = search rules;
  grown = grown_none c.args.maker.now c.args.maker.now c.args.sign;
}

pub used_each-loop-part-preserved : goal.used_each-loop-part-preserved
used_each-loop-part-preserved t c = record {
  uses = each_step c.args.classes c.args.maker.now c.loop-part.maker c.used.new.maker c.args.sign c.args.flipped c.args.parts.now c.loop-part.part-index c.part-item.result c.loop-part.made.items c.in_ok-x.x c.push.new.self.items
      c.loop-part-test.true c.part-item.is (search rules) c.loop-part.invariant.uses (search rules);
  as_many = (let k = c.loop-part.invariant.as_many in search (rules, k));
  grown = grown_each c.args.maker.now c.loop-part.maker c.used.new.maker c.args.sign c.args.parts.now c.loop-part.part-index c.part-item.result c.loop-part-test.true c.part-item.is c.loop-part.invariant.grown c.in_ok-x.ensures.grown;
}

pub universal-returns-in_ok-y-clause-is_use : goal.universal-returns-in_ok-y-clause-is_use
universal-returns-in_ok-y-clause-is_use t c = IfOk-weaker c.all_use.result
    (λ x. Closes c.used.new.maker c.all_use.new.self x (n4 (triple x c.args.role c.in_ok-y.y) ∷ []))
    (λ x. IsUse c.args.classes c.args.maker.now c.all_use.new.self c.args.sign (AllOf c.args.role (form c.args.flipped c.args.part.now)) x)
    (λ x h. arm_all c.args.classes c.args.maker.now c.used.new.maker c.all_use.new.self c.args.sign (form c.args.flipped c.args.part.now) c.args.role x c.in_ok-y.y c.if-sign.true (search rules) h)
    c.all_use.ensures.closes

pub universal-returns-in_ok-z-clause-is_use : goal.universal-returns-in_ok-z-clause-is_use
universal-returns-in_ok-z-clause-is_use t c = IfOk-weaker c.rest_use.result
    (λ x. ClosesTwo c.used-else-sign.new.maker c.rest_use.new.self x (rest_rows x c.args.role c.in_ok-z.z))
    (λ x. IsUse c.args.classes c.args.maker.now c.rest_use.new.self c.args.sign (AllOf c.args.role (form c.args.flipped c.args.part.now)) x)
    (λ x h. arm_rest c.args.classes c.args.maker.now c.used-else-sign.new.maker c.rest_use.new.self c.args.sign c.args.flipped c.args.part.now c.args.role x c.in_ok-z.z c.if-sign.false (search rules) h)
    c.rest_use.ensures.closes

pub used-returns-then-flipped-clause-grown : goal.used-returns-then-flipped-clause-grown
used-returns-then-flipped-clause-grown t c = IfOk-weaker c.minus_use.result
    (λ x. Closes c.args.maker.now c.minus_use.new.self x (minus_rows c.args.sign x c.in-Name.class))
    (λ x. IsGrownBy c.args.maker.now c.minus_use.new.self c.args.sign 1 (nodes_of c.args.e.now))
    (λ x h. grown_first c.args.maker.now c.minus_use.new.self c.args.sign (nodes_of c.args.e.now) (nodes_name c.args.e.now c.in-Name.class (search rules)) h.1 c.minus_use.ensures.few)
    c.minus_use.ensures.closes

pub used-returns-else-flipped-clause-grown : goal.used-returns-else-flipped-clause-grown
used-returns-else-flipped-clause-grown t c = grown_name c.args.maker.now c.args.maker.now c.args.sign (nodes_of c.args.e.now) (nodes_name c.args.e.now c.in-Name.class (search rules))

pub used-returns-in_ok-y-in-SomeOf-clause-grown : goal.used-returns-in_ok-y-in-SomeOf-clause-grown
used-returns-in_ok-y-in-SomeOf-clause-grown t c = IfOk-weaker c.some_use.result
    (λ x. Closes c.used-else-flipped-2.new.maker c.some_use.new.self x (some_rows c.args.sign x c.in-SomeOf.role c.in_ok-y-in-SomeOf.y))
    (λ x. IsGrownBy c.args.maker.now c.some_use.new.self c.args.sign 1 (nodes_of c.args.e.now))
    (λ x h. grown_step c.args.maker.now c.used-else-flipped-2.new.maker c.some_use.new.self c.args.sign (nodes_of c.get-else-flipped-2.result.now) (nodes_of c.args.e.now) (nodes_some c.args.e.now c.in-SomeOf.role c.get-else-flipped-2.result.now (search rules)) c.in_ok-y-in-SomeOf.ensures.grown h.1 c.some_use.ensures.few)
    c.some_use.ensures.closes

pub used-returns-in_ok-y-in-AllOf-clause-grown : goal.used-returns-in_ok-y-in-AllOf-clause-grown
used-returns-in_ok-y-in-AllOf-clause-grown t c = IfOk-weaker c.some_use-then-flipped-3.result
    (λ x. Closes c.used-then-flipped-3.new.maker c.some_use-then-flipped-3.new.self x (some_rows c.args.sign x c.in-AllOf.role c.in_ok-y-in-AllOf.y))
    (λ x. IsGrownBy c.args.maker.now c.some_use-then-flipped-3.new.self c.args.sign 1 (nodes_of c.args.e.now))
    (λ x h. grown_step c.args.maker.now c.used-then-flipped-3.new.maker c.some_use-then-flipped-3.new.self c.args.sign (nodes_of c.get-then-flipped-3.result.now) (nodes_of c.args.e.now) (nodes_all c.args.e.now c.in-AllOf.role c.get-then-flipped-3.result.now (search rules)) c.in_ok-y-in-AllOf.ensures.grown h.1 c.some_use-then-flipped-3.ensures.few)
    c.some_use-then-flipped-3.ensures.closes

pub used-returns-in_ok-ys-in-Meet-clause-grown : goal.used-returns-in_ok-ys-in-Meet-clause-grown
used-returns-in_ok-ys-in-Meet-clause-grown t c = IfOk-weaker c.list_use.result
    (λ x. Closes c.used_each.new.maker c.list_use.new.self x (list_rows (not c.args.flipped) c.args.sign x c.in_ok-ys-in-Meet.ys.items))
    (λ x. IsGrownBy c.args.maker.now c.list_use.new.self c.args.sign 1 (nodes_of c.args.e.now))
    (λ x h. grown_list c.args.maker.now c.used_each.new.maker c.list_use.new.self c.args.sign (sum_by nodes_of c.as_slice.result.now) (length c.as_slice.result.now) (length c.in_ok-ys-in-Meet.ys.items) (nodes_of c.args.e.now) (nodes_meet c.args.e.now c.as_slice.result.now (search rules)) c.in_ok-ys-in-Meet.ensures.same_length c.in_ok-ys-in-Meet.ensures.grown h.1 c.list_use.ensures.few)
    c.list_use.ensures.closes

pub used-returns-in_ok-ys-in-Join-clause-grown : goal.used-returns-in_ok-ys-in-Join-clause-grown
used-returns-in_ok-ys-in-Join-clause-grown t c = IfOk-weaker c.list_use-in-Join.result
    (λ x. Closes c.used_each-in-Join.new.maker c.list_use-in-Join.new.self x (list_rows c.args.flipped c.args.sign x c.in_ok-ys-in-Join.ys.items))
    (λ x. IsGrownBy c.args.maker.now c.list_use-in-Join.new.self c.args.sign 1 (nodes_of c.args.e.now))
    (λ x h. grown_list c.args.maker.now c.used_each-in-Join.new.maker c.list_use-in-Join.new.self c.args.sign (sum_by nodes_of c.as_slice-in-Join.result.now) (length c.as_slice-in-Join.result.now) (length c.in_ok-ys-in-Join.ys.items) (nodes_of c.args.e.now) (nodes_join c.args.e.now c.as_slice-in-Join.result.now (search rules)) c.in_ok-ys-in-Join.ensures.same_length c.in_ok-ys-in-Join.ensures.grown h.1 c.list_use-in-Join.ensures.few)
    c.list_use-in-Join.ensures.closes

pub universal-returns-in_ok-y-clause-grown : goal.universal-returns-in_ok-y-clause-grown
universal-returns-in_ok-y-clause-grown t c = IfOk-weaker c.all_use.result
    (λ x. Closes c.used.new.maker c.all_use.new.self x (n4 (triple x c.args.role c.in_ok-y.y) ∷ []))
    (λ x. IsGrownBy c.args.maker.now c.all_use.new.self c.args.sign 1 (1 + nodes_of c.args.part.now))
    (λ x h. subst (λ s. IsGrownBy c.args.maker.now c.all_use.new.self s 1 (1 + nodes_of c.args.part.now)) (sym c.if-sign.true) (grown_step c.args.maker.now c.used.new.maker c.all_use.new.self true (nodes_of c.args.part.now) (1 + nodes_of c.args.part.now) refl c.in_ok-y.ensures.grown h.1 c.all_use.ensures.few))
    c.all_use.ensures.closes

pub universal-returns-in_ok-z-clause-grown : goal.universal-returns-in_ok-z-clause-grown
universal-returns-in_ok-z-clause-grown t c = IfOk-weaker c.rest_use.result
    (λ x. ClosesTwo c.used-else-sign.new.maker c.rest_use.new.self x (rest_rows x c.args.role c.in_ok-z.z))
    (λ x. IsGrownBy c.args.maker.now c.rest_use.new.self c.args.sign 1 (1 + nodes_of c.args.part.now))
    (λ x h. subst (λ s. IsGrownBy c.args.maker.now c.rest_use.new.self s 1 (1 + nodes_of c.args.part.now)) (sym c.if-sign.false) (grown_rest c.args.maker.now c.used-else-sign.new.maker c.rest_use.new.self (nodes_of c.args.part.now) c.in_ok-z.ensures.grown h.1 c.rest_use.ensures.few))
    c.rest_use.ensures.closes

pub used-some_use-requires : goal.used-some_use-requires
used-some_use-requires t c = record { room = room c.args.maker.now c.used-else-flipped-2.new.maker c.used-else-flipped-2.new.maker c.args.sign 1 (nodes_of c.get-else-flipped-2.result.now) (nodes_of c.args.e.now) (nodes_some c.args.e.now c.in-SomeOf.role c.get-else-flipped-2.result.now (search rules)) c.requires.few c.in_ok-y-in-SomeOf.ensures.grown }

pub used-some_use-requires-then-flipped-3 : goal.used-some_use-requires-then-flipped-3
used-some_use-requires-then-flipped-3 t c = record { room = room c.args.maker.now c.used-then-flipped-3.new.maker c.used-then-flipped-3.new.maker c.args.sign 1 (nodes_of c.get-then-flipped-3.result.now) (nodes_of c.args.e.now) (nodes_all c.args.e.now c.in-AllOf.role c.get-then-flipped-3.result.now (search rules)) c.requires.few c.in_ok-y-in-AllOf.ensures.grown }

pub used-list_use-requires : goal.used-list_use-requires
used-list_use-requires t c = record { room = room c.args.maker.now c.used_each.new.maker c.used_each.new.maker c.args.sign (length c.as_slice.result.now) (sum_by nodes_of c.as_slice.result.now) (nodes_of c.args.e.now) (nodes_meet c.args.e.now c.as_slice.result.now (search rules)) c.requires.few c.in_ok-ys-in-Meet.ensures.grown }

pub used-list_use-requires-in-Join : goal.used-list_use-requires-in-Join
used-list_use-requires-in-Join t c = record { room = room c.args.maker.now c.used_each-in-Join.new.maker c.used_each-in-Join.new.maker c.args.sign (length c.as_slice-in-Join.result.now) (sum_by nodes_of c.as_slice-in-Join.result.now) (nodes_of c.args.e.now) (nodes_join c.args.e.now c.as_slice-in-Join.result.now (search rules)) c.requires.few c.in_ok-ys-in-Join.ensures.grown }

pub used-used_each-requires : goal.used-used_each-requires
used-used_each-requires t c =
    let n = nodes_meet c.args.e.now c.as_slice.result.now (search rules) in
    let few = c.requires.few in
    let d = c.decreases in (
      omega (arith, n, d),
      (
        meet_below c.args.classes c.args.e.now c.as_slice.result.now (search rules) c.requires.within,
        omega (arith, n, few),
      ),
    )

pub used-used_each-requires-in-Join : goal.used-used_each-requires-in-Join
used-used_each-requires-in-Join t c =
    let n = nodes_join c.args.e.now c.as_slice-in-Join.result.now (search rules) in
    let few = c.requires.few in
    let d = c.decreases in (
      omega (arith, n, d),
      (
        join_below c.args.classes c.args.e.now c.as_slice-in-Join.result.now (search rules) c.requires.within,
        omega (arith, n, few),
      ),
    )

pub used_each-used-requires : goal.used_each-used-requires
used_each-used-requires t c =
    let n = nodes_more_le c.args.parts.now c.loop-part.part-index c.part-item.result c.loop-part-test.true c.part-item.is in
    let d = c.decreases in (
      omega (arith, n, d),
      (
        (c.requires.within.0, below_at (is_in_range c.args.classes c.requires.within.0) c.args.parts.now c.loop-part.part-index c.part-item.result c.loop-part-test.true c.part-item.is c.requires.within.1),
        room_each c.args.maker.now c.loop-part.maker c.loop-part.maker c.args.sign c.args.parts.now c.loop-part.part-index c.part-item.result c.loop-part-test.true c.part-item.is c.requires.few c.loop-part.invariant.grown,
      ),
    )
