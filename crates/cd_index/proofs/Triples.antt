-- Triples whose numbers are below some have their atoms below.
use Rattle.std.proofs.Common.{◌≡◌, ℕ, ◌&&◌, true, List, [], ◌∷◌, refl}
use Rattle.std.specs.Prelude.{nat_lt}
use Rattle.std.specs.List.{list_all}
use Rattle.std.proofs.lemmas.Bool.{and_from, and_parts}
use Rattle.cd_base.specs.declared.normal.Triple.{Triple}
use Rattle.cd_base.specs.Normal.{is_triple_below}

pub triples_below : (atoms roles : ℕ) (triples : List Triple) → list_all (is_triple_below atoms roles) triples ≡ true → list_all (λ (t : Triple). nat_lt t.atom atoms) triples ≡ true
triples_below atoms roles [] h = refl
triples_below atoms roles (t ∷ triples) h =
    let both = and_parts (is_triple_below atoms roles t) (list_all (is_triple_below atoms roles) triples) h in
    and_from (nat_lt t.atom atoms) (list_all (λ (u : Triple). nat_lt u.atom atoms) triples)
    (and_parts (nat_lt t.atom atoms) (nat_lt t.role roles) (and_parts (nat_lt t.atom atoms && nat_lt t.role roles) (nat_lt t.other atoms) both.0).0).0
    (triples_below atoms roles triples both.1)
