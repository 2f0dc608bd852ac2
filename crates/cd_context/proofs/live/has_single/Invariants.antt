use Rattle.std.proofs.Common.{ℕ, ◌<◌, [], ◌∷◌, slice_index_or}
use Rattle.cd_base.specs.Lists.{SameSet}
use Rattle.cd_clause.specs.declared.elem.Elem.TheVariants.{Plain}
use Rattle.cd_context.proofs.live.has_single.Given as goal

abbrev pub invariant-numbers : goal.invariant-numbers
invariant-numbers l = (k : ℕ) → k < l.n-index → SameSet (slice_index_or l.clauses (slice_index_or l.live k 0) []) (Plain l.atom ∷ []) → ⊥
