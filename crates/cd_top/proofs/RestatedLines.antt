-- The lines of a taxonomy, and the tokens of its text.
use Rattle.std.proofs.Common.{◌≡◌, ◌≢◌, ℕ, Bool, true, List, [], ◌∷◌, ◌++◌, length, map, flat_map, refl, sym, ap, subst, ◌∙◌, arith, append_assoc}
use Rattle.std.specs.Prelude.{codes}
use Rattle.std.specs.List.{AllByRecursion, list_all, join_with_byte}
use Rattle.std.proofs.lemmas.Bool.{cond-true, lt-ltb}
use Rattle.std.proofs.lemmas.List.{append-nil}
use Rattle.std.proofs.lemmas.List.Concat.{flat_map-append}
use Rattle.cd_base.specs.Iri.{IsIri}
use Rattle.cd_meaning.specs.Hierarchy.{name_of, representatives, members, parents, proper}
use Rattle.cd_meaning.specs.Text.{full_iri, line, subclass_line, ended, group_text, parents_text, text}
use Rattle.cd_lex.specs.declared.token.Kind.{Kind}
use Rattle.cd_lex.specs.declared.token.Kind.TheVariants.{Opening, Closing, Word, FullIri}
use Rattle.cd_lex.specs.Tokens.{Piece, Blank, Lexeme, IsCut, kinds, is_word_byte}

-- ---- the lines

-- two classes or more that are equivalent, or a class below another
pub data Statement : Type 0 where
  Same : ℕ → ℕ → List ℕ → Statement
  Sub : ℕ → ℕ → Statement

abbrev pub operands : Statement → List ℕ
operands (Same c d more) = c ∷ d ∷ more
operands (Sub c d) = c ∷ d ∷ []

abbrev pub word_of : Statement → List ℕ
word_of (Same c d more) = codes "EquivalentClasses"
word_of (Sub c d) = codes "SubClassOf"

abbrev pub of_group : List ℕ → List Statement
of_group [] = []
of_group (c ∷ []) = []
of_group (c ∷ d ∷ more) = Same c d more ∷ []

-- the lines of a relation, but for the first and the last
abbrev pub statements : List (List ℕ) → (ℕ → ℕ → Bool) → List Statement
statements names below =
    flat_map (λ r. of_group (members names below r)) (representatives names below)
    ++ flat_map (λ r. map (Sub r) (parents names below r)) (proper names below)

abbrev pub spelled_statement : List (List ℕ) → Statement → List ℕ
spelled_statement names s = ended (line names (word_of s) (operands s))

-- ---- the text of the lines

gathered : {X Y : Type 0} (f : Y → List ℕ) (g : X → List Y) (h : X → List ℕ) → ((x : X) → flat_map f (g x) ≡ h x) → (xs : List X)
    → flat_map f (flat_map g xs) ≡ flat_map h xs
gathered f g h each [] = refl
gathered f g h each (x ∷ xs) =
    flat_map-append f (g x) (flat_map g xs)
    ∙ ap (λ (bytes : List ℕ). bytes ++ flat_map f (flat_map g xs)) (each x)
    ∙ ap (λ (bytes : List ℕ). h x ++ bytes) (gathered f g h each xs)

module _ (names : List (List ℕ)) where
  group_spelled : (group : List ℕ) → flat_map (spelled_statement names) (of_group group) ≡ group_text names group
  group_spelled [] = refl
  group_spelled (c ∷ []) = refl
  group_spelled (c ∷ d ∷ more) =
      append-nil (spelled_statement names (Same c d more))
      ∙ sym (cond-true _ (spelled_statement names (Same c d more)) [] (lt-ltb 1 (length (c ∷ d ∷ more)) (omega arith)))

  parents_spelled : (r : ℕ) (above : List ℕ) → flat_map (spelled_statement names) (map (Sub r) above) ≡ parents_text names r above
  parents_spelled r [] = refl
  parents_spelled r (d ∷ above) = ap (λ (bytes : List ℕ). ended (subclass_line names r d) ++ bytes) (parents_spelled r above)

  pub text_spelled : (below : ℕ → ℕ → Bool)
      → text names below ≡ ended (codes "Ontology(") ++ (flat_map (spelled_statement names) (statements names below) ++ ended (codes ")"))
  text_spelled below =
      let rs = representatives names below in
      let ps = proper names below in
      let first : List ℕ = ended (codes "Ontology(") in
      let last : List ℕ = ended (codes ")") in
      let groups : List ℕ = flat_map (λ r. group_text names (members names below r)) rs in
      let links : List ℕ = flat_map (λ r. parents_text names r (parents names below r)) ps in
      let all : List ℕ = flat_map (spelled_statement names) (statements names below) in
      let are : all ≡ groups ++ links
      = flat_map-append (spelled_statement names) (flat_map (λ r. of_group (members names below r)) rs) (flat_map (λ r. map (Sub r) (parents names below r)) ps)
      ∙ ap (λ (bytes : List ℕ). bytes ++ flat_map (spelled_statement names) (flat_map (λ r. map (Sub r) (parents names below r)) ps))
      (gathered (spelled_statement names) (λ r. of_group (members names below r)) (λ r. group_text names (members names below r)) (λ r. group_spelled (members names below r)) rs)
      ∙ ap (λ (bytes : List ℕ). groups ++ bytes)
      (gathered (spelled_statement names) (λ r. map (Sub r) (parents names below r)) (λ r. parents_text names r (parents names below r)) (λ r. parents_spelled r (parents names below r)) ps) in
      ap (λ (bytes : List ℕ). bytes ++ last) (append_assoc first groups links)
      ∙ append_assoc first (groups ++ links) last
      ∙ ap (λ (bytes : List ℕ). first ++ (bytes ++ last)) (sym are)

-- ---- the pieces of the lines

module _ (names : List (List ℕ)) where
  abbrev pub operand_pieces : List ℕ → List Piece → List Piece
  operand_pieces [] after = after
  operand_pieces (c ∷ []) after = Lexeme (FullIri (name_of names c)) (full_iri names c) ∷ after
  operand_pieces (c ∷ d ∷ more) after = Lexeme (FullIri (name_of names c)) (full_iri names c) ∷ Blank 32 ∷ operand_pieces (d ∷ more) after

  abbrev pub statement_pieces : Statement → List Piece → List Piece
  statement_pieces s after = Lexeme (Word (word_of s)) (word_of s) ∷ Lexeme Opening (40 ∷ []) ∷ operand_pieces (operands s) (Lexeme Closing (41 ∷ []) ∷ Blank 10 ∷ after)

  abbrev pub pieces_of : List Statement → List Piece → List Piece
  pieces_of [] after = after
  pieces_of (s ∷ more) after = statement_pieces s (pieces_of more after)

  -- each operand has an IRI
  abbrev pub HaveIris : List ℕ → Type 0
  HaveIris = AllByRecursion (λ (c : ℕ). IsIri (name_of names c))

  cut_operands : (cs : List ℕ) → HaveIris cs → (behind : List ℕ) (after : List Piece) → IsCut behind after []
      → IsCut (join_with_byte 32 (map (full_iri names) cs) ++ behind) (operand_pieces cs after) []
  cut_operands [] iris behind after cut = cut
  cut_operands (c ∷ []) iris behind after cut = (behind, record { split = refl; is_piece = (iris.0, refl); is_longest = tt }, cut)
  cut_operands (c ∷ d ∷ more) iris behind after cut =
      let rest : List ℕ = join_with_byte 32 (map (full_iri names) (d ∷ more)) in (
        32 ∷ (rest ++ behind),
        record { split = append_assoc (full_iri names c) (32 ∷ rest) behind; is_piece = (iris.0, refl); is_longest = tt },
        (rest ++ behind, record { split = refl; is_piece = refl; is_longest = tt }, cut_operands (d ∷ more) iris.1 behind after cut),
      )

  regrouped : (word joined behind : List ℕ) → (((word ++ (40 ∷ joined)) ++ (41 ∷ [])) ++ (10 ∷ [])) ++ behind ≡ word ++ (40 ∷ (joined ++ (41 ∷ 10 ∷ behind)))
  regrouped word joined behind = simp append_assoc

  cut_line : (word : List ℕ) → (word ≢ []) → list_all is_word_byte word ≡ true → (cs : List ℕ) → HaveIris cs → (behind : List ℕ) (after : List Piece) → IsCut behind after []
      → IsCut (ended (line names word cs) ++ behind) (Lexeme (Word word) word ∷ Lexeme Opening (40 ∷ []) ∷ operand_pieces cs (Lexeme Closing (41 ∷ []) ∷ Blank 10 ∷ after)) []
  cut_line word some bytes cs iris behind after cut =
      let joined : List ℕ = join_with_byte 32 (map (full_iri names) cs) in
      let rest : List ℕ = joined ++ (41 ∷ 10 ∷ behind) in (
        40 ∷ rest,
        record { split = regrouped word joined behind; is_piece = ((some, bytes), refl); is_longest = refl },
        (
          rest,
          record { split = refl; is_piece = (tt, refl); is_longest = tt },
          cut_operands cs iris (41 ∷ 10 ∷ behind) (Lexeme Closing (41 ∷ []) ∷ Blank 10 ∷ after) (
            10 ∷ behind,
            record { split = refl; is_piece = (tt, refl); is_longest = tt },
            (behind, record { split = refl; is_piece = refl; is_longest = tt }, cut),
          ),
        ),
      )

  cut_statement : (s : Statement) → HaveIris (operands s) → (behind : List ℕ) (after : List Piece) → IsCut behind after []
      → IsCut (spelled_statement names s ++ behind) (statement_pieces s after) []
  cut_statement (Same c d more) = cut_line (codes "EquivalentClasses") (λ e. absurd cc) refl (c ∷ d ∷ more)
  cut_statement (Sub c d) = cut_line (codes "SubClassOf") (λ e. absurd cc) refl (c ∷ d ∷ [])

  pub cut_statements : (ss : List Statement) → AllByRecursion (λ (s : Statement). HaveIris (operands s)) ss → (behind : List ℕ) (after : List Piece) → IsCut behind after []
      → IsCut (flat_map (spelled_statement names) ss ++ behind) (pieces_of ss after) []
  cut_statements [] iris behind after cut = cut
  cut_statements (s ∷ ss) iris behind after cut =
      subst (λ (bytes : List ℕ). IsCut bytes (pieces_of (s ∷ ss) after) []) (sym (append_assoc (spelled_statement names s) (flat_map (spelled_statement names) ss) behind))
      (cut_statement s iris.0 (flat_map (spelled_statement names) ss ++ behind) (pieces_of ss after) (cut_statements ss iris.1 behind after cut))

  -- ---- the tokens of the lines

  abbrev pub operand_kinds : List ℕ → List Kind → List Kind
  operand_kinds [] after = after
  operand_kinds (c ∷ more) after = FullIri (name_of names c) ∷ operand_kinds more after

  abbrev pub statement_kinds : Statement → List Kind → List Kind
  statement_kinds s after = Word (word_of s) ∷ Opening ∷ operand_kinds (operands s) (Closing ∷ after)

  abbrev pub kinds_of : List Statement → List Kind → List Kind
  kinds_of [] after = after
  kinds_of (s ∷ more) after = statement_kinds s (kinds_of more after)

  kinds_of_operands : (cs : List ℕ) (after : List Piece) → kinds (operand_pieces cs after) ≡ operand_kinds cs (kinds after)
  kinds_of_operands [] after = refl
  kinds_of_operands (c ∷ []) after = refl
  kinds_of_operands (c ∷ d ∷ more) after = ap (λ (ks : List Kind). FullIri (name_of names c) ∷ ks) (kinds_of_operands (d ∷ more) after)

  pub kinds_of_pieces : (ss : List Statement) (after : List Piece) → kinds (pieces_of ss after) ≡ kinds_of ss (kinds after)
  kinds_of_pieces [] after = refl
  kinds_of_pieces (s ∷ ss) after =
      ap (λ (ks : List Kind). Word (word_of s) ∷ Opening ∷ ks) (kinds_of_operands (operands s) (Lexeme Closing (41 ∷ []) ∷ Blank 10 ∷ pieces_of ss after))
      ∙ ap (λ (ks : List Kind). statement_kinds s ks) (kinds_of_pieces ss after)

  -- the pieces of a whole text
  abbrev pub text_pieces : List Statement → List Piece
  text_pieces ss = Lexeme (Word (codes "Ontology")) (codes "Ontology") ∷ Lexeme Opening (40 ∷ []) ∷ Blank 10 ∷ pieces_of ss (Lexeme Closing (41 ∷ []) ∷ Blank 10 ∷ [])

  pub cut_text : (below : ℕ → ℕ → Bool) → AllByRecursion (λ (s : Statement). HaveIris (operands s)) (statements names below)
      → IsCut (text names below) (text_pieces (statements names below)) []
  cut_text below iris =
      let ss = statements names below in
      let rest : List ℕ = flat_map (spelled_statement names) ss ++ (41 ∷ 10 ∷ []) in
      subst (λ (bytes : List ℕ). IsCut bytes (text_pieces ss) []) (sym (text_spelled names below)) (
        40 ∷ 10 ∷ rest,
        record { split = refl; is_piece = (((λ e. absurd cc), refl), refl); is_longest = refl },
        (
          10 ∷ rest,
          record { split = refl; is_piece = (tt, refl); is_longest = tt },
          (
            rest,
            record { split = refl; is_piece = refl; is_longest = tt },
            cut_statements ss iris (41 ∷ 10 ∷ []) (Lexeme Closing (41 ∷ []) ∷ Blank 10 ∷ []) (
              10 ∷ [],
              record { split = refl; is_piece = (tt, refl); is_longest = tt },
              ([], record { split = refl; is_piece = refl; is_longest = tt }, refl),
            ),
          ),
        ),
      )
