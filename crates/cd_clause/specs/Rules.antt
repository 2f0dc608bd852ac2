-- The rules of the calculus, after Simančík, Kazakov and Horrocks, "Consequence-Based Reasoning beyond Horn Ontologies" (IJCAI 2011), and the rule Sure.
use Rattle.std.specs.Prelude.{◌≡◌, ℕ, List, [], ◌∷◌, ◌++◌, map}
use Rattle.cd_base.specs.Lists.{OneOf, SameSet}
use Rattle.cd_base.specs.Keys.{plain, negated, key_with}
use Rattle.cd_base.specs.Normal.{Under}
use Rattle.cd_base.specs.declared.normal.Normal.{Normal}
use Rattle.cd_base.specs.declared.normal.Conj.{Conj}
use Rattle.cd_base.specs.declared.normal.Triple.{Triple}
use Rattle.cd_clause.specs.declared.elem.Elem.{Elem}
use Rattle.cd_clause.specs.declared.elem.Elem.TheVariants.{Plain, Exist}
use Rattle.cd_clause.specs.Elements.{Eligible, IsCase, rest}

-- `m` is the union of the rests of clauses that are had, one for each atom, in which that atom is eligible
abbrev pub Rests : Normal → (List Elem → Type 0) → List ℕ → List Elem → Type 0
Rests n Has [] m = m ≡ []
Rests n Has (a ∷ as') m = (c : List Elem) × Has c × Eligible n (Plain a) c
    × record { tail : List Elem; rests : Rests n Has as' tail; is : m ≡ rest (Plain a) c ++ tail }

-- What other contexts told, of those to which there is an existential of role r and key K: `back r k a` that a is eligible in a clause of
-- the context of K that has other elements, `sure r k a` that the clause of a alone is in that context, and `dead r k` that the empty
-- clause is.
pub record Told : Type 1 where
  pub back : ℕ → List ℕ → ℕ → Type 0
  pub sure : ℕ → List ℕ → ℕ → Type 0
  pub dead : ℕ → List ℕ → Type 0

-- In the context of `key`, `d` is the conclusion of a rule from clauses that are had there and from what was told. M, N and Ni stand for
-- the rest of a clause beside its eligible element, and conclusions are read as sets.
pub data Concludes (n : Normal) (key : List ℕ) (Has : List Elem → Type 0) (told : Told)
    (d : List Elem) : Type 0 where
  -- Init      the key has A
  --          ---------------
  --                A
  by_init : (a : ℕ) → OneOf (plain a) key → SameSet d (Plain a ∷ [])
      → Concludes n key Has told d
  -- Neg      N + A     the key has not A
  --          ---------------------------
  --                     N
  by_neg : (a : ℕ) (c : List Elem) → Has c → Eligible n (Plain a) c → OneOf (negated a) key
      → SameSet d (rest (Plain a) c) → Concludes n key Has told d
  -- Con      N1 + A1  ..  Nn + An     A1 .. An -> B1 .. Bm
  --          ---------------------------------------------
  --                N1 + .. + Nn + B1 + .. + Bm
  by_con : (x : Conj) (m : List Elem) → OneOf x n.n1 → Rests n Has x.left m
      → SameSet d (m ++ map Plain x.right) → Concludes n key Has told d
  -- Ex       N + A     every A has an R-edge to a B
  --          --------------------------------------
  --                  N + some R.{B}
  by_ex : (t : Triple) (c : List Elem) → OneOf t n.n2 → Has c → Eligible n (Plain t.atom) c
      → SameSet d (Exist t.role (plain t.other ∷ []) ∷ rest (Plain t.atom) c)
      → Concludes n key Has told d
  -- Back     M + some R.K     N + A in the context of K     what has an S-edge to an A is in B     R under S
  --          ----------------------------------------------------------------------------------------------- N not empty
  --                              M + B + some R.(K with not A)
  by_back : (t : Triple) (c : List Elem) (r : ℕ) (k : List ℕ) → OneOf t n.n3 → Has c
      → Eligible n (Exist r k) c → told.back r k t.atom → Under n.n5 r t.role
      → SameSet d (Plain t.other ∷ Exist r (key_with (negated t.atom) k) ∷ rest (Exist r k) c)
      → Concludes n key Has told d
  -- Sure     M + some R.K     A in the context of K     what has an S-edge to an A is in B     R under S
  --          -------------------------------------------------------------------------------------------
  --                              M + B
  by_sure : (t : Triple) (c : List Elem) (r : ℕ) (k : List ℕ) → OneOf t n.n3 → Has c
      → Eligible n (Exist r k) c → told.sure r k t.atom → Under n.n5 r t.role
      → SameSet d (Plain t.other ∷ rest (Exist r k) c) → Concludes n key Has told d
  -- Dead     M + some R.K     the empty clause in the context of K
  --          -----------------------------------------------------
  --                              M
  by_dead : (c : List Elem) (r : ℕ) (k : List ℕ) → Has c → Eligible n (Exist r k) c → told.dead r k
      → SameSet d (rest (Exist r k) c) → Concludes n key Has told d
  -- All      M + some R.K     N + A     every S-edge from an A goes to a B     R under S
  --          ---------------------------------------------------------------------------
  --                          M + N + some R.(K with B)
  by_all : (t : Triple) (c b : List Elem) (r : ℕ) (k : List ℕ) → OneOf t n.n4 → Has c
      → Eligible n (Exist r k) c → Has b → Eligible n (Plain t.atom) b → Under n.n5 r t.role
      → SameSet d (Exist r (key_with (plain t.other) k)
      ∷ (rest (Exist r k) c ++ rest (Plain t.atom) b)) → Concludes n key Has told d

-- what contexts tell by their clauses, where `Has k` are the clauses of the context of k
abbrev pub told_by : Normal → (List ℕ → List Elem → Type 0) → Told
told_by n Has = record {
  back = λ r k a. (c : List Elem) × Has k c × IsCase n a c;
  sure = λ r k a. (c : List Elem) × Has k c × SameSet c (Plain a ∷ []);
  dead = λ r k. Has k [];
}
