-- The lines of a printed taxonomy, as whoever reads it gets them.
use Rattle.std.proofs.Common.{◌≡◌, ◌≢◌, ◌⊎◌, ℕ, zero, suc, ◌-◌, ◌<◌, ◌≤◌, true, false, not, ◌&&◌, nat_lt, ◌==◌, if◌then◌else◌, List, [], ◌∷◌, ◌++◌, length, map, flat_map, slice_index, refl, sym, ap, subst, ◌∙◌, arith, inl, inr, append_assoc}
use Rattle.std.specs.Prelude.{codes}
use Rattle.std.specs.List.{All, AllByRecursion, Contains, list_all, slice_split, join_with_byte}
use Rattle.std.specs.Str.Lines.{lines, lines_of_parts, strip_carriage_return}
use Rattle.std.proofs.lemmas.Bool.{cond-true, cond-false, cond_both, cases_lt, and_parts, ltb-true, ne_eqb, lt-ltb, not-true}
use Rattle.std.proofs.lemmas.List.{append-nil, get_or_past, get_or_push, length_push}
use Rattle.std.proofs.lemmas.List.Concat.{flat_map-append}
use Rattle.std.proofs.lemmas.List.Elements.{All-append, All-cons, All-map, All-nil, All-weaker, Contains-append_cases, Contains-append_left, Contains-append_right, recursion_from_All}
use Rattle.std.proofs.lemmas.List.Folds.{flat_map-map}
use Rattle.std.proofs.lemmas.List.Splits.{slice_split_at}
use Rattle.std.proofs.lemmas.List.Sums.{AllPass-from_list_all}
use Rattle.cd_base.specs.Iri.{is_iri_byte, IsIri}
use Rattle.cd_meaning.specs.Hierarchy.{name_of}
use Rattle.cd_meaning.specs.Text.{full_iri, line, equivalent_line, subclass_line, ended, group_text, parents_text}
use Rattle.cd_taxonomy.proofs.Lists.{Contains-map, Contains-from_map}

-- ---- a text of lines, each with its line feed

-- no byte of them is b
abbrev pub Lacks : ℕ → List ℕ → Type 0
Lacks b = All (λ x. (x == b) ≡ false)

-- with no line feed, and no carriage return at the end
pub record IsLine (l : List ℕ) : Type 0 where
  pub whole : Lacks 10 l
  pub uncut : (slice_index l (length l - 1) == 13) ≡ false

split_lines : (ls : List (List ℕ)) → AllByRecursion IsLine ls → slice_split (λ b. b == 10) (flat_map ended ls) ≡ ls ++ [] ∷ []
split_lines [] h = refl
split_lines (l ∷ ls) h =
    ap (slice_split (λ b. b == 10)) (append_assoc l (10 ∷ []) (flat_map ended ls))
    ∙ slice_split_at (λ b. b == 10) l 10 (flat_map ended ls) (h.0).whole refl
    ∙ ap (λ (more : List (List ℕ)). l ∷ more) (split_lines ls h.1)

unstripped : (l : List ℕ) → IsLine l → strip_carriage_return l ≡ l
unstripped l h = cond-false (slice_index l (length l - 1) == 13) _ l h.uncut

lines_of_split : (ls : List (List ℕ)) → AllByRecursion IsLine ls → lines_of_parts (ls ++ [] ∷ []) ≡ ls
lines_of_split [] h = refl
lines_of_split (l ∷ []) h = ap (λ (x : List ℕ). x ∷ []) (unstripped l h.0)
lines_of_split (l ∷ next ∷ ls) h =
    ap (λ (x : List ℕ). x ∷ lines_of_parts (next ∷ (ls ++ [] ∷ []))) (unstripped l h.0)
    ∙ ap (λ (more : List (List ℕ)). l ∷ more) (lines_of_split (next ∷ ls) h.1)

lines_back : (ls : List (List ℕ)) → All IsLine ls → lines (flat_map ended ls) ≡ ls
lines_back ls h = let each = recursion_from_All IsLine ls h in ap lines_of_parts (split_lines ls each) ∙ lines_of_split ls each

-- ---- a word with its operands is a line

iri_lacks : (b : ℕ) → b ≤ 32 → (bytes : List ℕ) → IsIri bytes → Lacks b bytes
iri_lacks b low bytes iri =
    All-weaker (λ x. is_iri_byte x ≡ true) (λ x. (x == b) ≡ false)
    (λ x h.
    let both = and_parts (nat_lt 32 x && not (x == 60)) (not (x == 62)) h in
    let above : 32 < x = ltb-true 32 x (and_parts (nat_lt 32 x) (not (x == 60)) both.0).0 in
    ne_eqb x b (λ same. absurd (omega arith)))
    bytes (AllPass-from_list_all is_iri_byte bytes iri.1)

module _ (names : List (List ℕ)) (iris : All IsIri names) (b : ℕ) (low : b ≤ 32) where
  -- a number past the end has the empty name
  name_lacks : (c : ℕ) → Lacks b (name_of names c)
  name_lacks c = elim (cases_lt c (length names)) [
    | inl inside ↦ iri_lacks b low (name_of names c) (iris c [] inside)
    | inr past ↦ subst (Lacks b) (sym (get_or_past names c [] past)) (All-nil (λ x. (x == b) ≡ false))
  ]

  full_iri_lacks : (c : ℕ) → Lacks b (full_iri names c)
  full_iri_lacks c =
      let P : ℕ → Type 0 = λ x. (x == b) ≡ false in
      All-append P (60 ∷ name_of names c) (62 ∷ [])
      (All-cons P 60 (name_of names c) (ne_eqb 60 b (λ same. absurd (omega arith))) (name_lacks c))
      (All-cons P 62 [] (ne_eqb 62 b (λ same. absurd (omega arith))) (All-nil P))

  pub operands_lack : (cs : List ℕ) → All (Lacks b) (map (full_iri names) cs)
  operands_lack cs = All-map (Lacks b) (full_iri names) cs (λ k d h. full_iri_lacks _)

-- the operands with a space between two
join_lacks : (b : ℕ) → b ≢ 32 → (xs : List (List ℕ)) → AllByRecursion (Lacks b) xs → Lacks b (join_with_byte 32 xs)
join_lacks b other [] h = All-nil (λ x. (x == b) ≡ false)
join_lacks b other (x ∷ []) h = h.0
join_lacks b other (x ∷ y ∷ more) h =
    let P : ℕ → Type 0 = λ x. (x == b) ≡ false in
    All-append P x (32 ∷ join_with_byte 32 (y ∷ more)) h.0
    (All-cons P 32 (join_with_byte 32 (y ∷ more)) (ne_eqb 32 b (λ same. other (sym same))) (join_lacks b other (y ∷ more) h.1))

closed : (front : List ℕ) → Lacks 10 front → IsLine (front ++ 41 ∷ [])
closed front h =
    let last : slice_index (front ++ 41 ∷ []) (length (front ++ 41 ∷ []) - 1) ≡ 41
    = get_or_push front 41 0 (length (front ++ 41 ∷ []) - 1) (omega (arith, length_push front 41)) in
    record {
      whole = let P : ℕ → Type 0 = λ x. (x == 10) ≡ false in All-append P front (41 ∷ []) h (All-cons P 41 [] refl (All-nil P));
      uncut = ap (λ (x : ℕ). x == 13) last;
    }

line_is_line : (names : List (List ℕ)) → All IsIri names → (word : List ℕ) → Lacks 10 word → (operands : List ℕ) → IsLine (line names word operands)
line_is_line names iris word lacks operands =
    let P : ℕ → Type 0 = λ x. (x == 10) ≡ false in
    let joined : List ℕ = join_with_byte 32 (map (full_iri names) operands) in
    closed (word ++ 40 ∷ joined)
    (All-append P word (40 ∷ joined) lacks
    (All-cons P 40 joined refl
    (join_lacks 10 (λ same. absurd (omega arith)) (map (full_iri names) operands)
    (recursion_from_All (Lacks 10) (map (full_iri names) operands) (operands_lack names iris 10 (omega arith) operands)))))

literal_lacks : (bytes : List ℕ) → list_all (λ x. not (x == 10)) bytes ≡ true → Lacks 10 bytes
literal_lacks bytes h = All-weaker (λ x. not (x == 10) ≡ true) (λ x. (x == 10) ≡ false) (λ x passes. not-true (x == 10) passes)
    bytes (AllPass-from_list_all (λ x. not (x == 10)) bytes h)

-- ---- the lines of a text, whatever groups it is of

all_flat_map : {X Y : Type 0} (P : Y → Type 0) (f : X → List Y) → ((x : X) → All P (f x)) → (xs : List X) → All P (flat_map f xs)
all_flat_map P f each [] = All-nil P
all_flat_map P f each (x ∷ xs) = All-append P (f x) (flat_map f xs) (each x) (all_flat_map P f each xs)

flat_map_twice : {X Y Z : Type 0} (g : Y → List Z) (f : X → List Y) (xs : List X) → flat_map g (flat_map f xs) ≡ flat_map (λ x. flat_map g (f x)) xs
flat_map_twice g f [] = refl
flat_map_twice {Z = Z} g f (x ∷ xs) = flat_map-append g (f x) (flat_map f xs) ∙ ap (λ (zs : List Z). flat_map g (f x) ++ zs) (flat_map_twice g f xs)

-- a part of a flat_map is a part of what one element gives
pub contains_flat_map : {X Y : Type 0} (f : X → List Y) (xs : List X) (y : Y) → Contains (flat_map f xs) y → (x : X) × Contains xs x × Contains (f x) y
contains_flat_map f [] y (k, inside, at) = absurd (omega arith)
contains_flat_map f (x ∷ xs) y h = elim (Contains-append_cases (f x) (flat_map f xs) y h) [
  | inl here ↦ (x, (0, omega arith, refl), here)
  | inr later ↦ let found = contains_flat_map f xs y later in (found.0, (suc (found.1.0), omega (arith, found.1.1), found.1.2), found.2)
]

pub flat_map_contains : {X Y : Type 0} (f : X → List Y) (xs : List X) (x : X) (y : Y) → Contains xs x → Contains (f x) y → Contains (flat_map f xs) y
flat_map_contains f [] x y (k, inside, at) h = absurd (omega arith)
flat_map_contains {Y = Y} f (z ∷ xs) x y (zero, inside, at) h = Contains-append_left (f z) (flat_map f xs) y (subst (λ (w : List Y). Contains w y) (sym (ap f at)) h)
flat_map_contains f (z ∷ xs) x y (suc k, inside, at) h = Contains-append_right (f z) (flat_map f xs) y (flat_map_contains f xs x y (k, omega arith, at) h)

contains_one : {X : Type 0} (x y : X) → Contains (x ∷ []) y → x ≡ y
contains_one x y (zero, inside, at) = at
contains_one x y (suc k, inside, at) = absurd (omega arith)

-- the line of a group of two or more
abbrev pub group_lines : List (List ℕ) → List ℕ → List (List ℕ)
group_lines names group = if nat_lt 1 (length group) then equivalent_line names group ∷ [] else []

-- a text with the groups of these representatives, and the direct superclasses of those
abbrev pub text_of : List (List ℕ) → List ℕ → (ℕ → List ℕ) → List ℕ → (ℕ → List ℕ) → List ℕ
text_of names rs members ps parents =
    ended (codes "Ontology(") ++ flat_map (λ r. group_text names (members r)) rs ++ flat_map (λ r. parents_text names r (parents r)) ps ++ ended (codes ")")

-- a line with a group
abbrev pub IsGroupLine : List (List ℕ) → List ℕ → (ℕ → List ℕ) → List ℕ → Type 0
IsGroupLine names rs members l = (r : ℕ) × Contains rs r × (l ≡ equivalent_line names (members r))

-- a line with a direct superclass
abbrev pub IsParentLine : List (List ℕ) → List ℕ → (ℕ → List ℕ) → List ℕ → Type 0
IsParentLine names ps parents l = (r : ℕ) × (d : ℕ) × Contains ps r × Contains (parents r) d × (l ≡ subclass_line names r d)

module _ (names : List (List ℕ)) (rs : List ℕ) (members : ℕ → List ℕ) (ps : List ℕ) (parents : ℕ → List ℕ) where
  abbrev groups : List (List ℕ)
  groups = flat_map (λ r. group_lines names (members r)) rs

  abbrev links : List (List ℕ)
  links = flat_map (λ r. map (subclass_line names r) (parents r)) ps

  abbrev all_lines : List (List ℕ)
  all_lines = codes "Ontology(" ∷ [] ++ groups ++ links ++ codes ")" ∷ []

  group_ended : (r : ℕ) → flat_map ended (group_lines names (members r)) ≡ group_text names (members r)
  group_ended r =
      let t = nat_lt 1 (length (members r)) in
      elim t as (λ t. flat_map ended (if t then equivalent_line names (members r) ∷ [] else []) ≡ (if t then ended (equivalent_line names (members r)) else [])) [
        | true ↦ append-nil (ended (equivalent_line names (members r)))
        | false ↦ refl
      ]

  in_group : (r : ℕ) (l : List ℕ) → Contains (group_lines names (members r)) l → l ≡ equivalent_line names (members r)
  in_group r l = cond_both (nat_lt 1 (length (members r))) (equivalent_line names (members r) ∷ []) [] (λ (ls : List (List ℕ)). Contains ls l → l ≡ equivalent_line names (members r))
      (λ _ h. sym (contains_one (equivalent_line names (members r)) l h))
      (λ _ h. absurd (omega (arith, h.1)))

  text_is : flat_map ended all_lines ≡ text_of names rs members ps parents
  text_is =
      let first : List (List ℕ) = codes "Ontology(" ∷ [] in
      let groups_are : flat_map ended groups ≡ flat_map (λ r. group_text names (members r)) rs
      = flat_map_twice ended (λ r. group_lines names (members r)) rs ∙ ap (λ (f : ℕ → List ℕ). flat_map f rs) (λ i r. group_ended r i) in
      let links_are : flat_map ended links ≡ flat_map (λ r. parents_text names r (parents r)) ps
      = flat_map_twice ended (λ r. map (subclass_line names r) (parents r)) ps
      ∙ ap (λ (f : ℕ → List ℕ). flat_map f ps) (λ i r. flat_map-map ended (subclass_line names r) (parents r) i) in
      flat_map-append ended (first ++ groups ++ links) (codes ")" ∷ [])
      ∙ ap (λ (bytes : List ℕ). bytes ++ ended (codes ")")) (
      flat_map-append ended (first ++ groups) links
      ∙ ap (λ (bytes : List ℕ). bytes ++ flat_map ended links) (flat_map-append ended first groups ∙ ap (λ (bytes : List ℕ). ended (codes "Ontology(") ++ bytes) groups_are)
      ∙ ap (λ (bytes : List ℕ). ended (codes "Ontology(") ++ flat_map (λ r. group_text names (members r)) rs ++ bytes) links_are)

  module _ (iris : All IsIri names) where
    group_is_line : (r : ℕ) → All IsLine (group_lines names (members r))
    group_is_line r = cond_both (nat_lt 1 (length (members r))) (equivalent_line names (members r) ∷ []) [] (All IsLine)
        (λ _. All-cons IsLine (equivalent_line names (members r)) [] (line_is_line names iris (codes "EquivalentClasses") (literal_lacks (codes "EquivalentClasses") refl) (members r)) (All-nil IsLine))
        (λ _. All-nil IsLine)

    links_are_lines : (r : ℕ) → All IsLine (map (subclass_line names r) (parents r))
    links_are_lines r = All-map IsLine (subclass_line names r) (parents r)
        (λ k d h. line_is_line names iris (codes "SubClassOf") (literal_lacks (codes "SubClassOf") refl) (r ∷ _ ∷ []))

    all_are_lines : All IsLine all_lines
    all_are_lines =
        All-append IsLine (codes "Ontology(" ∷ [] ++ groups ++ links) (codes ")" ∷ [])
        (All-append IsLine (codes "Ontology(" ∷ [] ++ groups) links
        (All-append IsLine (codes "Ontology(" ∷ []) groups
        (All-cons IsLine (codes "Ontology(") [] (record { whole = literal_lacks (codes "Ontology(") refl; uncut = refl }) (All-nil IsLine))
        (all_flat_map IsLine (λ r. group_lines names (members r)) group_is_line rs))
        (all_flat_map IsLine (λ r. map (subclass_line names r) (parents r)) links_are_lines ps))
        (All-cons IsLine (codes ")") [] (record { whole = literal_lacks (codes ")") refl; uncut = refl }) (All-nil IsLine))

    lines_are : lines (text_of names rs members ps parents) ≡ all_lines
    lines_are = ap lines (sym text_is) ∙ lines_back all_lines all_are_lines

    -- ---- what stands in the text

    -- the first line, the line of a group or of a direct superclass, or the last line
    pub line_shown : (l : List ℕ) → Contains (lines (text_of names rs members ps parents)) l
        → (l ≡ codes "Ontology(") ⊎ IsGroupLine names rs members l ⊎ IsParentLine names ps parents l ⊎ (l ≡ codes ")")
    line_shown l h =
        elim (Contains-append_cases (codes "Ontology(" ∷ [] ++ groups ++ links) (codes ")" ∷ []) l (subst (λ (ls : List (List ℕ)). Contains ls l) lines_are h)) [
          | inr last ↦ inr (inr (inr (sym (contains_one (codes ")") l last))))
          | inl before ↦ elim (Contains-append_cases (codes "Ontology(" ∷ [] ++ groups) links l before) [
            | inr link ↦
                let found = contains_flat_map (λ r. map (subclass_line names r) (parents r)) ps l link in
                let parent = Contains-from_map (subclass_line names (found.0)) (parents (found.0)) l found.2 in
                inr (inr (inl (found.0, parent.0, found.1, parent.1, sym parent.2)))
            | inl earlier ↦ elim (Contains-append_cases (codes "Ontology(" ∷ []) groups l earlier) [
              | inl first ↦ inl (sym (contains_one (codes "Ontology(") l first))
              | inr group ↦
                  let found = contains_flat_map (λ r. group_lines names (members r)) rs l group in
                  inr (inl (found.0, found.1, in_group (found.0) l found.2))
            ]
          ]
        ]

    pub group_shown : (r : ℕ) → Contains rs r → 1 < length (members r) → Contains (lines (text_of names rs members ps parents)) (equivalent_line names (members r))
    group_shown r at many =
        let l = equivalent_line names (members r) in
        let here : Contains (group_lines names (members r)) l
        = subst (λ (ls : List (List ℕ)). Contains ls l) (sym (cond-true (nat_lt 1 (length (members r))) (l ∷ []) [] (lt-ltb 1 (length (members r)) many))) (0, omega arith, refl) in
        subst (λ (ls : List (List ℕ)). Contains ls l) (sym lines_are)
        (Contains-append_left (codes "Ontology(" ∷ [] ++ groups ++ links) (codes ")" ∷ []) l
        (Contains-append_left (codes "Ontology(" ∷ [] ++ groups) links l
        (Contains-append_right (codes "Ontology(" ∷ []) groups l (flat_map_contains (λ s. group_lines names (members s)) rs r l at here))))

    pub parent_shown : (r d : ℕ) → Contains ps r → Contains (parents r) d → Contains (lines (text_of names rs members ps parents)) (subclass_line names r d)
    parent_shown r d at parent =
        let l = subclass_line names r d in
        subst (λ (ls : List (List ℕ)). Contains ls l) (sym lines_are)
        (Contains-append_left (codes "Ontology(" ∷ [] ++ groups ++ links) (codes ")" ∷ []) l
        (Contains-append_right (codes "Ontology(" ∷ [] ++ groups) links l
        (flat_map_contains (λ s. map (subclass_line names s) (parents s)) ps r l at (Contains-map (subclass_line names r) (parents r) d parent))))
