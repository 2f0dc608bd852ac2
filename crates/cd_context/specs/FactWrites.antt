-- What a fact feeds a hasher.
use Rattle.std.specs.Prelude.{◌++◌, map}
use Rattle.std.specs.Hash as fed
use Rattle.cd_context.specs.declared.facts.Fact.{Fact}
use Rattle.cd_context.specs.declared.facts.Fact.TheVariants.{Start, Link, Back, Sure, Dead}

-- the number of its kind, and then its parts
abbrev pub fact_writes : Fact → fed.HashWrites
fact_writes Start = fed.u8 0
fact_writes (Link k r) = fed.u8 1 ++ (map (fed.le_bytes 8) k ++ fed.u32 r)
fact_writes (Back r k a) = fed.u8 2 ++ (fed.u32 r ++ (map (fed.le_bytes 8) k ++ fed.u32 a))
fact_writes (Sure r k a) = fed.u8 3 ++ (fed.u32 r ++ (map (fed.le_bytes 8) k ++ fed.u32 a))
fact_writes (Dead r k) = fed.u8 4 ++ (fed.u32 r ++ map (fed.le_bytes 8) k)
