use Rattle.std.proofs.Common.{rules}
use Rattle.cd_nnf.proofs.Parts.{made_meet, made_join, made_not_meet, made_not_join}
use Rattle.cd_nnf.proofs.normal_forms.+nnf.Goals as goal

pub nnf-returns-in_ok-nnf_each-in-Meet : goal.nnf-returns-in_ok-nnf_each-in-Meet
nnf-returns-in_ok-nnf_each-in-Meet t c = made_meet c.args.e.now c.in-Meet.parts c.in_ok-nnf_each-in-Meet.field-0 (search rules) (search rules)

pub nnf-returns-in_ok-nnf_each-in-Join : goal.nnf-returns-in_ok-nnf_each-in-Join
nnf-returns-in_ok-nnf_each-in-Join t c = made_join c.args.e.now c.in-Join.parts c.in_ok-nnf_each-in-Join.field-0 (search rules) (search rules)

pub nnf_not-returns-in_ok-nnf_not_each-in-Meet : goal.nnf_not-returns-in_ok-nnf_not_each-in-Meet
nnf_not-returns-in_ok-nnf_not_each-in-Meet t c = made_not_meet c.args.e.now c.in-Meet.parts c.in_ok-nnf_not_each-in-Meet.field-0 (search rules) (search rules)

pub nnf_not-returns-in_ok-nnf_not_each-in-Join : goal.nnf_not-returns-in_ok-nnf_not_each-in-Join
nnf_not-returns-in_ok-nnf_not_each-in-Join t c = made_not_join c.args.e.now c.in-Join.parts c.in_ok-nnf_not_each-in-Join.field-0 (search rules) (search rules)
