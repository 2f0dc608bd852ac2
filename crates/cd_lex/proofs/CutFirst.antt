-- The first piece of a text as a function: it finds exactly the pieces that begin there.
use Rattle.std.proofs.Common.{◌≡◌, ◌≢◌, ◌⊎◌, ℕ, Bool, true, false, not, ◌&&◌, ◌||◌, ◌==◌, IsTrue, List, [], ◌∷◌, ◌++◌, refl, sym, ap, subst, ◌∙◌, inl, inr, cond, append_assoc}
use Rattle.std.specs.Prelude.{Option, Some, None}
use Rattle.std.specs.List.{list_all}
use Rattle.std.proofs.lemmas.Bool.{false≢true, both_ways, eqb-true}
use Rattle.cd_base.specs.Iri.{is_iri_byte}
use Rattle.cd_lex.specs.declared.token.Kind.{Kind}
use Rattle.cd_lex.specs.declared.token.Kind.TheVariants.{Opening, Closing, Equals, Carets, Word, Short, Node, FullIri, Quoted, Lang}
use Rattle.cd_lex.specs.Tokens.{is_blank, is_letter, is_name_byte, is_word_byte, is_lang_byte, ends_line, Piece, escaped, spelled, begins, IsPiece, IsLongest, BeginsWith}
use Rattle.cd_lex.proofs.CutRuns.{front_while, rest_while, by_cases, chosen_true, chosen_false, is_or_not, and_cases, neither, differs, split_while, all_while, stops_while, while_append}
use Rattle.cd_lex.proofs.CutQuoted.{unescaped, Undoes, unescaped_found, unescaped_only}

-- ---- the function

abbrev pub in_line : ℕ → Bool
in_line b = not (ends_line b)

abbrev pub is_underscore : List ℕ → Bool
is_underscore [] = false
is_underscore (b ∷ []) = b == 95
is_underscore (b ∷ c ∷ w) = false

-- a name with a colon behind its first word
abbrev pub colon_kind : List ℕ → List ℕ → Kind
colon_kind w l = cond (is_underscore w) (Node l) (Short (w ++ 58 ∷ []) l)

abbrev pub colon_piece : List ℕ → List ℕ → Piece
colon_piece w l = Piece.Lexeme (colon_kind w l) (w ++ 58 ∷ l)

-- the name that begins with this word, and what follows the word
abbrev pub name_piece : List ℕ → List ℕ → Piece × List ℕ
name_piece w [] = (Piece.Lexeme (Word w) w, [])
name_piece w (c ∷ more) =
    cond (c == 58) (colon_piece w (front_while is_name_byte more), rest_while is_name_byte more) (Piece.Lexeme (Word w) w, c ∷ more)

abbrev pub carets_piece : List ℕ → Option (Piece × List ℕ)
carets_piece [] = None
carets_piece (c ∷ more) = cond (c == 94) (Some (Piece.Lexeme Carets (94 ∷ 94 ∷ []), more)) None

abbrev pub iri_piece : List ℕ → List ℕ → Option (Piece × List ℕ)
iri_piece [] behind = None
iri_piece (b ∷ i) [] = None
iri_piece (b ∷ i) (c ∷ behind) = cond (c == 62) (Some (Piece.Lexeme (FullIri (b ∷ i)) (60 ∷ (b ∷ i) ++ 62 ∷ []), behind)) None

abbrev pub quoted_piece : Option (List ℕ × List ℕ) → Option (Piece × List ℕ)
quoted_piece None = None
quoted_piece (Some (s, rest)) = Some (Piece.Lexeme Quoted (34 ∷ escaped s ++ 34 ∷ []), rest)

abbrev pub lang_piece : List ℕ → List ℕ → Option (Piece × List ℕ)
lang_piece t rest = cond (begins is_letter t) (Some (Piece.Lexeme Lang (64 ∷ t), rest)) None

-- the piece that begins with this byte, which is neither blank nor in a name
abbrev pub marked_piece : ℕ → List ℕ → Option (Piece × List ℕ)
marked_piece b more =
    cond (b == 35) (Some (Piece.Comment (front_while in_line more), rest_while in_line more))
    (cond (b == 40) (Some (Piece.Lexeme Opening (40 ∷ []), more))
    (cond (b == 41) (Some (Piece.Lexeme Closing (41 ∷ []), more))
    (cond (b == 61) (Some (Piece.Lexeme Equals (61 ∷ []), more))
    (cond (b == 94) (carets_piece more)
    (cond (b == 60) (iri_piece (front_while is_iri_byte more) (rest_while is_iri_byte more))
    (cond (b == 34) (quoted_piece (unescaped false more))
    (cond (b == 64) (lang_piece (front_while is_lang_byte more) (rest_while is_lang_byte more))
    None)))))))

-- the piece with which a text begins, and the rest
abbrev pub first_piece : List ℕ → Option (Piece × List ℕ)
first_piece [] = None
first_piece (b ∷ more) =
    cond (is_blank b) (Some (Piece.Blank b, more))
    (cond (is_name_byte b) (Some (name_piece (front_while is_word_byte (b ∷ more)) (rest_while is_word_byte (b ∷ more))))
    (marked_piece b more))

-- ---- what is found is a piece

abbrev pub Finds : List ℕ → Option (Piece × List ℕ) → Type 0
Finds bytes None = Unit {0}
Finds bytes (Some found) = BeginsWith bytes found.0 found.1

underscore_true : (w : List ℕ) → is_underscore w ≡ true → w ≡ 95 ∷ []
underscore_true [] h = absurd (false≢true h)
underscore_true (b ∷ []) h = ap (λ (x : ℕ). x ∷ []) (eqb-true b 95 h)
underscore_true (b ∷ c ∷ w) h = absurd (false≢true h)

underscore_false : (w : List ℕ) → is_underscore w ≡ false → w ≢ 95 ∷ []
underscore_false w h e = both_ways (is_underscore w) h (ap is_underscore e)

not_underscore : (w : List ℕ) → w ≢ 95 ∷ [] → is_underscore w ≡ false
not_underscore w h = elim (is_or_not (is_underscore w)) [
  | inl is ↦ absurd (h (underscore_true w is))
  | inr is ↦ is
]

some_word : (w t : List ℕ) → begins is_name_byte (w ++ t) ≡ true → begins is_name_byte t ≡ false → w ≢ []
some_word w t some none e = both_ways (begins is_name_byte t) none (ap (λ (xs : List ℕ). begins is_name_byte (xs ++ t)) (sym e) ∙ some)

ends_name : (c : ℕ) → (c == 58) ≡ false → is_word_byte c ≡ false → is_name_byte c ≡ false
ends_name c other stops = elim (is_or_not (is_name_byte c)) [
  | inl is ↦ absurd (both_ways (is_word_byte c) stops (ap (λ (t : Bool). t && not (c == 58)) is ∙ ap not other))
  | inr is ↦ is
]

colon_found : (w more : List ℕ) → list_all is_word_byte w ≡ true
    → BeginsWith (w ++ 58 ∷ more) (colon_piece w (front_while is_name_byte more)) (rest_while is_name_byte more)
colon_found w more word =
    let l : List ℕ = front_while is_name_byte more in
    let rest : List ℕ = rest_while is_name_byte more in
    let split : w ++ 58 ∷ more ≡ (w ++ 58 ∷ l) ++ rest
    = ap (λ (xs : List ℕ). w ++ 58 ∷ xs) (split_while is_name_byte more) ∙ sym (append_assoc w (58 ∷ l) rest) in
    by_cases (λ (kind : Kind). BeginsWith (w ++ 58 ∷ more) (Piece.Lexeme kind (w ++ 58 ∷ l)) rest) (is_underscore w) (Node l) (Short (w ++ 58 ∷ []) l)
    (λ is. record {
      split = split;
      is_piece = (all_while is_name_byte more, ap (λ (xs : List ℕ). xs ++ 58 ∷ l) (underscore_true w is));
      is_longest = stops_while is_name_byte more;
    })
    (λ is. record {
      split = split;
      is_piece = (((w, refl, underscore_false w is, word), all_while is_name_byte more), sym (append_assoc w (58 ∷ []) l));
      is_longest = stops_while is_name_byte more;
    })

name_found : (w t : List ℕ) → list_all is_word_byte w ≡ true → begins is_word_byte t ≡ false → begins is_name_byte (w ++ t) ≡ true
    → BeginsWith (w ++ t) (name_piece w t).0 (name_piece w t).1
name_found w [] word stops some = record { split = refl; is_piece = ((some_word w [] some refl, word), refl); is_longest = refl }
name_found w (c ∷ more) word stops some =
    by_cases (λ (z : Piece × List ℕ). BeginsWith (w ++ c ∷ more) z.0 z.1) (c == 58)
    (colon_piece w (front_while is_name_byte more), rest_while is_name_byte more) (Piece.Lexeme (Word w) w, c ∷ more)
    (λ colon.
    subst (λ (x : ℕ). BeginsWith (w ++ x ∷ more) (colon_piece w (front_while is_name_byte more)) (rest_while is_name_byte more))
    (sym (eqb-true c 58 colon)) (colon_found w more word))
    (λ other. record {
      split = refl;
      is_piece = ((some_word w (c ∷ more) some (ends_name c other stops), word), refl);
      is_longest = ends_name c other stops;
    })

line_ends : (rest : List ℕ) → begins in_line rest ≡ false → (rest ≡ []) ⊎ IsTrue (begins ends_line rest)
line_ends [] h = inl refl
line_ends (b ∷ rest) h = elim (is_or_not (ends_line b)) [
  | inl is ↦ inr is
  | inr is ↦ absurd (both_ways (in_line b) h (ap not is))
]

comment_found : (more : List ℕ) → BeginsWith (35 ∷ more) (Piece.Comment (front_while in_line more)) (rest_while in_line more)
comment_found more = record {
  split = ap (λ (xs : List ℕ). 35 ∷ xs) (split_while in_line more);
  is_piece = all_while in_line more;
  is_longest = line_ends (rest_while in_line more) (stops_while in_line more);
}

carets_found : (more : List ℕ) → Finds (94 ∷ more) (carets_piece more)
carets_found [] = tt
carets_found (c ∷ more) =
    by_cases (Finds (94 ∷ c ∷ more)) (c == 94) (Some (Piece.Lexeme Carets (94 ∷ 94 ∷ []), more)) None
    (λ is. record { split = ap (λ (x : ℕ). 94 ∷ x ∷ more) (eqb-true c 94 is); is_piece = (tt, refl); is_longest = tt }) (λ is. tt)

not_empty : (b : ℕ) (bs : List ℕ) → b ∷ bs ≢ []
not_empty b bs e = cc

iri_found : (i behind more : List ℕ) → more ≡ i ++ behind → list_all is_iri_byte i ≡ true → Finds (60 ∷ more) (iri_piece i behind)
iri_found [] behind more split all = tt
iri_found (b ∷ i) [] more split all = tt
iri_found (b ∷ i) (c ∷ behind) more split all =
    by_cases (Finds (60 ∷ more)) (c == 62) (Some (Piece.Lexeme (FullIri (b ∷ i)) (60 ∷ (b ∷ i) ++ 62 ∷ []), behind)) None
    (λ closed. record {
      split =
          ap (λ (xs : List ℕ). 60 ∷ xs) (split ∙ ap (λ (x : ℕ). (b ∷ i) ++ (x ∷ behind)) (eqb-true c 62 closed))
          ∙ sym (append_assoc (60 ∷ b ∷ i) (62 ∷ []) behind);
      is_piece = ((not_empty b i, all), refl);
      is_longest = tt;
    }) (λ other. tt)

quoted_found : (more : List ℕ) (found : Option (List ℕ × List ℕ)) → Undoes more found → Finds (34 ∷ more) (quoted_piece found)
quoted_found more None h = tt
quoted_found more (Some (s, rest)) h = record {
  split = ap (λ (xs : List ℕ). 34 ∷ xs) h ∙ sym (append_assoc (34 ∷ escaped s) (34 ∷ []) rest);
  is_piece = (tt, (s, refl));
  is_longest = tt;
}

lang_found : (more : List ℕ) → Finds (64 ∷ more) (lang_piece (front_while is_lang_byte more) (rest_while is_lang_byte more))
lang_found more =
    let t : List ℕ = front_while is_lang_byte more in
    let rest : List ℕ = rest_while is_lang_byte more in
    by_cases (Finds (64 ∷ more)) (begins is_letter t) (Some (Piece.Lexeme Lang (64 ∷ t), rest)) None
    (λ is. record {
      split = ap (λ (xs : List ℕ). 64 ∷ xs) (split_while is_lang_byte more);
      is_piece = (tt, (t, refl, is, all_while is_lang_byte more));
      is_longest = stops_while is_lang_byte more;
    }) (λ is. tt)

-- a byte that is this mark
at_mark : (b mark : ℕ) (more : List ℕ) (found : Option (Piece × List ℕ)) → (b == mark) ≡ true → Finds (mark ∷ more) found → Finds (b ∷ more) found
at_mark b mark more found same h = subst (λ (x : ℕ). Finds (x ∷ more) found) (sym (eqb-true b mark same)) h

marked_found : (b : ℕ) (more : List ℕ) → Finds (b ∷ more) (marked_piece b more)
marked_found b more =
    let P : Option (Piece × List ℕ) → Type 0 = Finds (b ∷ more) in
    by_cases P (b == 35) (Some (Piece.Comment (front_while in_line more), rest_while in_line more)) _
    (λ is. at_mark b 35 more (Some (Piece.Comment (front_while in_line more), rest_while in_line more)) is (comment_found more))
    (λ not_35. by_cases P (b == 40) (Some (Piece.Lexeme Opening (40 ∷ []), more)) _
    (λ is. at_mark b 40 more (Some (Piece.Lexeme Opening (40 ∷ []), more)) is (record { split = refl; is_piece = (tt, refl); is_longest = tt }))
    (λ not_40. by_cases P (b == 41) (Some (Piece.Lexeme Closing (41 ∷ []), more)) _
    (λ is. at_mark b 41 more (Some (Piece.Lexeme Closing (41 ∷ []), more)) is (record { split = refl; is_piece = (tt, refl); is_longest = tt }))
    (λ not_41. by_cases P (b == 61) (Some (Piece.Lexeme Equals (61 ∷ []), more)) _
    (λ is. at_mark b 61 more (Some (Piece.Lexeme Equals (61 ∷ []), more)) is (record { split = refl; is_piece = (tt, refl); is_longest = tt }))
    (λ not_61. by_cases P (b == 94) (carets_piece more) _
    (λ is. at_mark b 94 more (carets_piece more) is (carets_found more))
    (λ not_94. by_cases P (b == 60) (iri_piece (front_while is_iri_byte more) (rest_while is_iri_byte more)) _
    (λ is. at_mark b 60 more (iri_piece (front_while is_iri_byte more) (rest_while is_iri_byte more)) is
    (iri_found (front_while is_iri_byte more) (rest_while is_iri_byte more) more (split_while is_iri_byte more) (all_while is_iri_byte more)))
    (λ not_60. by_cases P (b == 34) (quoted_piece (unescaped false more)) _
    (λ is. at_mark b 34 more (quoted_piece (unescaped false more)) is (quoted_found more (unescaped false more) (unescaped_found false more)))
    (λ not_34. by_cases P (b == 64) (lang_piece (front_while is_lang_byte more) (rest_while is_lang_byte more)) None
    (λ is. at_mark b 64 more (lang_piece (front_while is_lang_byte more) (rest_while is_lang_byte more)) is (lang_found more))
    (λ not_64. tt))))))))

pub first_found : (bytes : List ℕ) → Finds bytes (first_piece bytes)
first_found [] = tt
first_found (b ∷ more) =
    let P : Option (Piece × List ℕ) → Type 0 = Finds (b ∷ more) in
    let w : List ℕ = front_while is_word_byte (b ∷ more) in
    let t : List ℕ = rest_while is_word_byte (b ∷ more) in
    let whole : b ∷ more ≡ w ++ t = split_while is_word_byte (b ∷ more) in
    by_cases P (is_blank b) (Some (Piece.Blank b, more)) _
    (λ is. record { split = refl; is_piece = is; is_longest = tt })
    (λ solid. by_cases P (is_name_byte b) (Some (name_piece w t)) (marked_piece b more)
    (λ is.
    subst (λ (xs : List ℕ). BeginsWith xs (name_piece w t).0 (name_piece w t).1) (sym whole)
    (name_found w t (all_while is_word_byte (b ∷ more)) (stops_while is_word_byte (b ∷ more))
    (ap (begins is_name_byte) (sym whole) ∙ is)))
    (λ mark. marked_found b more))

pub piece_found : (bytes : List ℕ) (p : Piece) (rest : List ℕ) → first_piece bytes ≡ Some (p, rest) → BeginsWith bytes p rest
piece_found bytes p rest h = subst (Finds bytes) h (first_found bytes)

-- ---- what is a piece is found

name_not_blank : (b : ℕ) → is_name_byte b ≡ true → is_blank b ≡ false
name_not_blank b is =
    neither (b == 32 || b == 9 || b == 10) (b == 13)
    (neither (b == 32 || b == 9) (b == 10) (neither (b == 32) (b == 9) (differs is_name_byte b 32 is refl) (differs is_name_byte b 9 is refl)) (differs is_name_byte b 10 is refl))
    (differs is_name_byte b 13 is refl)

name_first : (bytes : List ℕ) → begins is_name_byte bytes ≡ true
    → first_piece bytes ≡ Some (name_piece (front_while is_word_byte bytes) (rest_while is_word_byte bytes))
name_first [] h = absurd (false≢true h)
name_first (b ∷ more) h = chosen_false (is_blank b) _ _ (name_not_blank b h) ∙ chosen_true (is_name_byte b) _ _ h

-- a text whose first word is known
word_first : (w t : List ℕ) → list_all is_word_byte w ≡ true → begins is_word_byte t ≡ false → begins is_name_byte (w ++ t) ≡ true
    → first_piece (w ++ t) ≡ Some (name_piece w t)
word_first w t word stops some =
    let both = while_append is_word_byte w t word stops in
    name_first (w ++ t) some ∙ ap (λ (xs : List ℕ). Some (name_piece xs (rest_while is_word_byte (w ++ t)))) both.0
    ∙ ap (λ (xs : List ℕ). Some (name_piece w xs)) both.1

begins_name : (w t : List ℕ) → list_all is_word_byte w ≡ true → (w ≢ []) ⊎ (begins is_name_byte t ≡ true) → begins is_name_byte (w ++ t) ≡ true
begins_name [] t word (inl some) = absurd (some refl)
begins_name [] t word (inr is) = is
begins_name (b ∷ w) t word some =
    let both = and_cases (is_word_byte b) (list_all is_word_byte w) word in (and_cases (is_name_byte b) (not (b == 58)) both.0).0

stops_word : (rest : List ℕ) → begins is_name_byte rest ≡ false → begins is_word_byte rest ≡ false
stops_word [] h = refl
stops_word (b ∷ rest) h = ap (λ (t : Bool). t && not (b == 58)) h

word_piece : (w rest : List ℕ) → begins is_name_byte rest ≡ false → name_piece w rest ≡ (Piece.Lexeme (Word w) w, rest)
word_piece w [] h = refl
word_piece w (c ∷ rest) h = elim (is_or_not (c == 58)) [
  | inl colon ↦ absurd (both_ways (is_name_byte c) h (ap is_name_byte (eqb-true c 58 colon)))
  | inr other ↦ chosen_false (c == 58) _ _ other
]

word_only : (w rest : List ℕ) → w ≢ [] → list_all is_word_byte w ≡ true → begins is_name_byte rest ≡ false
    → first_piece (w ++ rest) ≡ Some (Piece.Lexeme (Word w) w, rest)
word_only w rest some word stops =
    word_first w rest word (stops_word rest stops) (begins_name w rest word (inl some))
    ∙ ap (λ (z : Piece × List ℕ). Some z) (word_piece w rest stops)

colon_only : (w l rest : List ℕ) → list_all is_word_byte w ≡ true → list_all is_name_byte l ≡ true → begins is_name_byte rest ≡ false
    → first_piece (w ++ 58 ∷ (l ++ rest)) ≡ Some (colon_piece w l, rest)
colon_only w l rest word name stops =
    let t : List ℕ = 58 ∷ (l ++ rest) in
    let both = while_append is_name_byte l rest name stops in
    let found : first_piece (w ++ t) ≡ Some (name_piece w t) = word_first w t word refl (begins_name w t word (inr refl)) in
    let first : Some (name_piece w t) ≡ Some (colon_piece w l, rest_while is_name_byte (l ++ rest))
    = ap (λ (xs : List ℕ). Some (colon_piece w xs, rest_while is_name_byte (l ++ rest))) both.0 in
    found ∙ first ∙ ap (λ (xs : List ℕ). Some (colon_piece w l, xs)) both.1

short_only : (w l rest : List ℕ) → w ≢ 95 ∷ [] → list_all is_word_byte w ≡ true → list_all is_name_byte l ≡ true → begins is_name_byte rest ≡ false
    → first_piece (((w ++ 58 ∷ []) ++ l) ++ rest) ≡ Some (Piece.Lexeme (Short (w ++ 58 ∷ []) l) ((w ++ 58 ∷ []) ++ l), rest)
short_only w l rest plain word name stops =
    let t : List ℕ = 58 ∷ (l ++ rest) in
    let spells : ((w ++ 58 ∷ []) ++ l) ++ rest ≡ w ++ t = append_assoc (w ++ 58 ∷ []) l rest ∙ append_assoc w (58 ∷ []) (l ++ rest) in
    let found : first_piece (w ++ t) ≡ Some (colon_piece w l, rest) = colon_only w l rest word name stops in
    ap first_piece spells ∙ found
    ∙ ap (λ (kind : Kind). Some (Piece.Lexeme kind (w ++ 58 ∷ l), rest)) (chosen_false (is_underscore w) (Node l) (Short (w ++ 58 ∷ []) l) (not_underscore w plain))
    ∙ ap (λ (xs : List ℕ). Some (Piece.Lexeme (Short (w ++ 58 ∷ []) l) xs, rest)) (sym (append_assoc w (58 ∷ []) l))

line_stops : (rest : List ℕ) → (rest ≡ []) ⊎ IsTrue (begins ends_line rest) → begins in_line rest ≡ false
line_stops rest (inl none) = ap (begins in_line) none
line_stops [] (inr ends) = refl
line_stops (b ∷ rest) (inr ends) = ap not ends

comment_only : (c rest : List ℕ) → list_all in_line c ≡ true → begins in_line rest ≡ false → first_piece (35 ∷ c ++ rest) ≡ Some (Piece.Comment c, rest)
comment_only c rest all stops =
    let both = while_append in_line c rest all stops in
    ap (λ (xs : List ℕ). Some (Piece.Comment xs, rest_while in_line (c ++ rest))) both.0 ∙ ap (λ (xs : List ℕ). Some (Piece.Comment c, xs)) both.1

iri_only : (b : ℕ) (i rest : List ℕ) → list_all is_iri_byte (b ∷ i) ≡ true
    → first_piece ((60 ∷ (b ∷ i) ++ 62 ∷ []) ++ rest) ≡ Some (Piece.Lexeme (FullIri (b ∷ i)) (60 ∷ (b ∷ i) ++ 62 ∷ []), rest)
iri_only b i rest all =
    let both = while_append is_iri_byte (b ∷ i) (62 ∷ rest) all refl in
    ap first_piece (append_assoc (60 ∷ b ∷ i) (62 ∷ []) rest)
    ∙ ap (λ (xs : List ℕ). iri_piece xs (rest_while is_iri_byte ((b ∷ i) ++ 62 ∷ rest))) both.0 ∙ ap (iri_piece (b ∷ i)) both.1

quoted_only : (s rest : List ℕ) → first_piece ((34 ∷ escaped s ++ 34 ∷ []) ++ rest) ≡ Some (Piece.Lexeme Quoted (34 ∷ escaped s ++ 34 ∷ []), rest)
quoted_only s rest = ap first_piece (append_assoc (34 ∷ escaped s) (34 ∷ []) rest) ∙ ap quoted_piece (unescaped_only s rest)

lang_only : (t rest : List ℕ) → begins is_letter t ≡ true → list_all is_lang_byte t ≡ true → begins is_lang_byte rest ≡ false
    → first_piece (64 ∷ t ++ rest) ≡ Some (Piece.Lexeme Lang (64 ∷ t), rest)
lang_only t rest is all stops =
    let both = while_append is_lang_byte t rest all stops in
    ap (λ (xs : List ℕ). lang_piece xs (rest_while is_lang_byte (t ++ rest))) both.0 ∙ ap (lang_piece t) both.1
    ∙ chosen_true (begins is_letter t) (Some (Piece.Lexeme Lang (64 ∷ t), rest)) None is

as_spelled : (kind : Kind) (front bytes rest : List ℕ) → bytes ≡ front → first_piece (front ++ rest) ≡ Some (Piece.Lexeme kind front, rest)
    → first_piece (bytes ++ rest) ≡ Some (Piece.Lexeme kind bytes, rest)
as_spelled kind front bytes rest is h = subst (λ (xs : List ℕ). first_piece (xs ++ rest) ≡ Some (Piece.Lexeme kind xs, rest)) (sym is) h

spelled_first : (p : Piece) (rest : List ℕ) → IsPiece p → IsLongest p rest → first_piece (spelled p ++ rest) ≡ Some (p, rest)
spelled_first (Piece.Blank b) rest is longest = chosen_true (is_blank b) _ _ is
spelled_first (Piece.Comment c) rest is longest = comment_only c rest is (line_stops rest longest)
spelled_first (Piece.Lexeme Opening bytes) rest is longest = as_spelled Opening (40 ∷ []) bytes rest is.1 refl
spelled_first (Piece.Lexeme Closing bytes) rest is longest = as_spelled Closing (41 ∷ []) bytes rest is.1 refl
spelled_first (Piece.Lexeme Equals bytes) rest is longest = as_spelled Equals (61 ∷ []) bytes rest is.1 refl
spelled_first (Piece.Lexeme Carets bytes) rest is longest = as_spelled Carets (94 ∷ 94 ∷ []) bytes rest is.1 refl
spelled_first (Piece.Lexeme (Word w) bytes) rest ((some, word), is) longest = as_spelled (Word w) w bytes rest is (word_only w rest some word longest)
spelled_first (Piece.Lexeme (Short p l) bytes) rest (((w, spells, plain, word), name), is) longest =
    as_spelled (Short p l) (p ++ l) bytes rest is
    (subst (λ (xs : List ℕ). first_piece ((xs ++ l) ++ rest) ≡ Some (Piece.Lexeme (Short xs l) (xs ++ l), rest)) (sym spells)
    (short_only w l rest plain word name longest))
spelled_first (Piece.Lexeme (Node l) bytes) rest (name, is) longest =
    as_spelled (Node l) (95 ∷ 58 ∷ l) bytes rest is (colon_only (95 ∷ []) l rest refl name longest)
spelled_first (Piece.Lexeme (FullIri []) bytes) rest is longest = absurd (is.0.0 refl)
spelled_first (Piece.Lexeme (FullIri (b ∷ i)) bytes) rest is longest =
    as_spelled (FullIri (b ∷ i)) (60 ∷ (b ∷ i) ++ 62 ∷ []) bytes rest is.1 (iri_only b i rest is.0.1)
spelled_first (Piece.Lexeme Quoted bytes) rest (valid, (s, is)) longest = as_spelled Quoted (34 ∷ escaped s ++ 34 ∷ []) bytes rest is (quoted_only s rest)
spelled_first (Piece.Lexeme Lang bytes) rest (valid, (t, is, letter, tag)) longest =
    as_spelled Lang (64 ∷ t) bytes rest is (lang_only t rest letter tag longest)

pub piece_only : (bytes : List ℕ) (p : Piece) (rest : List ℕ) → BeginsWith bytes p rest → first_piece bytes ≡ Some (p, rest)
piece_only bytes p rest h = ap first_piece h.split ∙ spelled_first p rest h.is_piece h.is_longest
