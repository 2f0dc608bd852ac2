use Rattle.std.proofs.Common.{◌≡◌, refl}
use Rattle.cd_grammar.proofs.Parsing.{untaken, cause_at}
use Rattle.cd_grammar.proofs.parser.Parser.try_item.Goals as goal

pub returns : goal.returns
returns c =
    let found : c.in_ok-found.found ≡ cause_at c.advance.new.known c.in-Some.symbol c.args.item.now =
    cc (c.in_ok-found.ensures, c.wants_role-role.ensures, c.is_prefix_iri-clash.ensures, c.is_over-over.ensures) in
    record {
      tried =
          untaken c.args.self.now (record c.args.self.now { known = c.advance.new.known; stack = c.advance.new.stack }) c.args.item.now c.in_ok-found.found c.in-Some.symbol
          c.pop.new.self c.advance.new.stack _ c.if-branch.false c.in-Some.ensures c.in_ok-advance.ensures refl found;
    }
