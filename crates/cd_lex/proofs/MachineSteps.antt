-- Each step of the machine keeps what its state means.
use Rattle.std.proofs.Common.{◌≡◌, ◌≢◌, ◌⊎◌, ℕ, Bool, true, false, not, ◌&&◌, ◌||◌, ◌==◌, List, [], ◌∷◌, ◌++◌, refl, sym, ap, subst, ◌∙◌, inl, inr, cond, append_assoc, append-nil}
use Rattle.std.specs.List.{list_all}
use Rattle.std.proofs.lemmas.Bool.{false≢true, both_ways, eqb-true, and_from, or_from, or_left}
use Rattle.std.proofs.lemmas.List.Folds.{list_all-append}
use Rattle.cd_base.specs.Iri.{is_iri_byte}
use Rattle.cd_lex.specs.declared.token.Kind.{Kind}
use Rattle.cd_lex.specs.declared.token.Kind.TheVariants.{Opening, Closing, Equals, Carets, Word, Short, Node, FullIri, Quoted, Lang}
use Rattle.cd_lex.specs.declared.token.Token.{Token}
use Rattle.cd_lex.specs.declared.machine.Mode.{Mode}
use Rattle.cd_lex.specs.declared.machine.Mode.TheVariants.{Between, InComment, InWord, InLocal, InNode, InIri, InText, AfterBackslash, AfterCaret, AfterAt, InTag}
use Rattle.cd_lex.specs.Tokens.{is_between, is_blank, is_letter, is_name_byte, is_word_byte, is_lang_byte, ends_line, Piece, Blank, Comment, Lexeme, escaped, spelled, begins, IsPrefixName, IsKind, IsSpelled, IsLongest, IsBad, length_of}
use Rattle.cd_lex.specs.Machine.{State, begin, turn, keep, without_kept, without_prefix, end, refuse, end_word, end_short, end_node, end_iri, is_underscore, begin_node, begin_local, take_colon, single, take_sign, take_mark, take_between, take_in_comment, take_in_word, take_in_local, take_in_node, is_empty, take_in_iri, take_in_text, take_after_backslash, take_after_caret, take_after_at, take_in_tag, count}
use Rattle.cd_lex.specs.Lexing.{IsUnfinished}
use Rattle.cd_lex.proofs.CutRuns.{by_cases, chosen_true, chosen_false}
use Rattle.cd_lex.proofs.MachineBad.{first_bad, iri_bad, escape_bad, caret_bad, at_bad}
use Rattle.cd_lex.proofs.MachineAhead.{begins_ahead, IsOpen, IsAt, at_too, at_place, at_gap, at_end, goes_on, refuses}

-- ---- lists of bytes

pub all_more : (test : ℕ → Bool) (bytes : List ℕ) (b : ℕ) → list_all test bytes ≡ true → test b ≡ true → list_all test (bytes ++ b ∷ []) ≡ true
all_more test bytes b all is =
    list_all-append test bytes (b ∷ []) ∙ and_from (list_all test bytes) (test b && true) all (and_from (test b) true is refl)

not_empty : (b : ℕ) (bytes : List ℕ) → b ∷ bytes ≢ []
not_empty b bytes e = cc

pub some_more : (bytes : List ℕ) (b : ℕ) → bytes ++ b ∷ [] ≢ []
some_more [] b e = cc
some_more (c ∷ bytes) b e = cc

word_byte : (b : ℕ) → is_name_byte b ≡ true → (b == 58) ≡ false → is_word_byte b ≡ true
word_byte b name other = and_from (is_name_byte b) (not (b == 58)) name (ap not other)

pub letter_in_lang : (b : ℕ) → is_letter b ≡ true → is_lang_byte b ≡ true
letter_in_lang b is = or_left (is_letter b || is_between 48 57 b) (b == 45) (or_left (is_letter b) (is_between 48 57 b) is)

pub begins_more : (test : ℕ → Bool) (bytes more : List ℕ) → begins test bytes ≡ true → begins test (bytes ++ more) ≡ true
begins_more test [] more h = absurd (false≢true h)
begins_more test (b ∷ bytes) more h = h

pub escaped-append : (s t : List ℕ) → escaped (s ++ t) ≡ escaped s ++ escaped t
escaped-append [] t = refl
escaped-append (b ∷ s) t =
    by_cases (λ (xs : List ℕ). cond (b == 34 || b == 92) (92 ∷ b ∷ escaped (s ++ t)) (b ∷ escaped (s ++ t)) ≡ xs ++ escaped t)
    (b == 34 || b == 92) (92 ∷ b ∷ escaped s) (b ∷ escaped s)
    (λ is. chosen_true (b == 34 || b == 92) _ _ is ∙ ap (λ (xs : List ℕ). 92 ∷ b ∷ xs) (escaped-append s t))
    (λ is. chosen_false (b == 34 || b == 92) _ _ is ∙ ap (λ (xs : List ℕ). b ∷ xs) (escaped-append s t))

pub escaped_plain : (s : List ℕ) (b : ℕ) → (b == 34 || b == 92) ≡ false → escaped s ++ b ∷ [] ≡ escaped (s ++ b ∷ [])
escaped_plain s b is = ap (λ (xs : List ℕ). escaped s ++ xs) (sym (chosen_false (b == 34 || b == 92) (92 ∷ b ∷ []) (b ∷ []) is)) ∙ sym (escaped-append s (b ∷ []))

pub escaped_mark : (s : List ℕ) (b : ℕ) → (b == 34 || b == 92) ≡ true → (escaped s ++ 92 ∷ []) ++ b ∷ [] ≡ escaped (s ++ b ∷ [])
escaped_mark s b is =
    append_assoc (escaped s) (92 ∷ []) (b ∷ [])
    ∙ ap (λ (xs : List ℕ). escaped s ++ xs) (sym (chosen_true (b == 34 || b == 92) (92 ∷ b ∷ []) (b ∷ []) is)) ∙ sym (escaped-append s (b ∷ []))

pub underscore_true : (w : List ℕ) → is_underscore w ≡ true → w ≡ 95 ∷ []
underscore_true [] h = absurd (false≢true h)
underscore_true (b ∷ []) h = ap (λ (x : ℕ). x ∷ []) (eqb-true b 95 h)
underscore_true (b ∷ c ∷ w) h = absurd (false≢true h)

pub underscore_false : (w : List ℕ) → is_underscore w ≡ false → w ≢ 95 ∷ []
underscore_false w h e = both_ways (is_underscore w) h (ap is_underscore e)

empty_true : (w : List ℕ) → is_empty w ≡ true → w ≡ []
empty_true [] h = refl
empty_true (b ∷ w) h = absurd (false≢true h)

empty_false : (w : List ℕ) → is_empty w ≡ false → w ≢ []
empty_false w h e = both_ways (is_empty w) h (ap is_empty e)

not_underscore : (w : List ℕ) → w ≡ [] → w ≢ 95 ∷ []
not_underscore w none e = cc

module _ (taken : List Token) (s : State) (fed : List ℕ) (pieces : List Piece) (b : ℕ) where
  abbrev Goal : State → Type 0
  Goal t = IsOpen taken (count t) fed

  -- ---- between pieces: only the byte at hand stands behind them

  module _ (here : IsAt taken s fed pieces (b ∷ [])) (none : s.kept ≡ []) where
    begun : (mode : Mode) → IsAt taken (begin mode s) fed pieces (b ∷ [])
    begun mode = at_too taken s (begin mode s) fed pieces (b ∷ []) refl refl refl refl here

    place : s.place ≡ length_of pieces
    place = at_place taken s fed pieces b here

    kept_then : (c : ℕ) → c ∷ [] ≡ s.kept ++ c ∷ []
    kept_then c = ap (λ (xs : List ℕ). xs ++ c ∷ []) (sym none)

    blank_ends : is_blank b ≡ true → Goal (turn Between s)
    blank_ends is =
        goes_on taken Between (turn Between s) fed (pieces ++ Blank b ∷ []) []
        (at_too taken s (turn Between s) fed (pieces ++ Blank b ∷ []) [] refl refl refl refl
        (at_gap taken s fed pieces (b ∷ []) [] (Blank b) here (λ at. refl) (begins_ahead (b ∷ []) [] (Blank b) refl is (λ more. tt))))
        refl tt (refl, none)

    mark_ends : (mark : ℕ) (kind : Kind) → IsKind kind → IsSpelled kind (mark ∷ []) → ((more : List ℕ) → IsLongest (Lexeme kind (mark ∷ [])) more)
        → (b == mark) ≡ true → Goal (single kind s)
    mark_ends mark kind is spells longest same =
        goes_on taken Between (single kind s) fed (pieces ++ Lexeme kind (mark ∷ []) ∷ []) []
        (at_end taken (begin Between s) fed pieces (b ∷ []) [] kind (mark ∷ []) (begun Between) place
        (begins_ahead (b ∷ []) [] (Lexeme kind (mark ∷ [])) (ap (λ (x : ℕ). x ∷ []) (eqb-true b mark same)) (is, spells) longest))
        refl tt (refl, none)

    sign_begins : (mark : ℕ) → (b == mark) ≡ true → b ∷ [] ≡ mark ∷ s.kept
    sign_begins mark same = ap (λ (x : ℕ). x ∷ []) (eqb-true b mark same) ∙ ap (λ (xs : List ℕ). mark ∷ xs) (sym none)

    sign : (mark : ℕ) → (b == mark) ≡ true → b ∷ [] ≡ mark ∷ []
    sign mark same = ap (λ (x : ℕ). x ∷ []) (eqb-true b mark same)

    sign_law : is_blank b ≡ false → is_name_byte b ≡ false → (b == 40) ≡ false → (b == 41) ≡ false → (b == 61) ≡ false → Goal (take_sign b s)
    unfolding take_sign
    sign_law blank name opening closing equals =
        by_cases Goal (b == 35) (begin InComment s) _
        (λ is. goes_on taken InComment (begin InComment s) fed pieces (b ∷ []) (begun InComment) refl tt ([], sign 35 is, refl, none))
        (λ hash. by_cases Goal (b == 60) (begin InIri s) _
        (λ is. goes_on taken InIri (begin InIri s) fed pieces (b ∷ []) (begun InIri) refl place
        (sign_begins 60 is, ap (list_all is_iri_byte) none))
        (λ less. by_cases Goal (b == 34) (begin InText s) _
        (λ is. goes_on taken InText (begin InText s) fed pieces (b ∷ []) (begun InText) refl place
        ([], sign 34 is, none))
        (λ quote. by_cases Goal (b == 94) (begin AfterCaret s) _
        (λ is. goes_on taken AfterCaret (begin AfterCaret s) fed pieces (b ∷ []) (begun AfterCaret) refl place (sign 94 is, none))
        (λ caret. by_cases Goal (b == 64) (begin AfterAt s) (refuse (begin Between s))
        (λ is. goes_on taken AfterAt (begin AfterAt s) fed pieces (b ∷ []) (begun AfterAt) refl place (sign 64 is, none))
        (λ at. refuses taken (begin Between s) fed pieces (b ∷ []) (begun Between) place
        (λ more. first_bad b more (record {
          blank = blank;
          name = name;
          hash = hash;
          opening = opening;
          closing = closing;
          equals = equals;
          caret = caret;
          less = less;
          quote = quote;
          at = at;
        })))))))

    mark_law : is_blank b ≡ false → is_name_byte b ≡ false → Goal (take_mark b s)
    unfolding take_mark
    mark_law blank name =
        by_cases Goal (b == 40) (single Opening s) _ (mark_ends 40 Opening tt refl (λ more. tt))
        (λ opening. by_cases Goal (b == 41) (single Closing s) _ (mark_ends 41 Closing tt refl (λ more. tt))
        (λ closing. by_cases Goal (b == 61) (single Equals s) (take_sign b s) (mark_ends 61 Equals tt refl (λ more. tt))
        (λ equals. sign_law blank name opening closing equals)))

    prefix_name : IsPrefixName (s.kept ++ 58 ∷ [])
    prefix_name = (s.kept, refl, not_underscore s.kept none, ap (list_all is_word_byte) none)

    pub between_law : Goal (take_between b s)
    unfolding take_between
    between_law =
        by_cases Goal (b == 58) (begin_local (begin Between s)) _
        (λ is.
        goes_on taken InLocal (begin_local (begin Between s)) fed pieces (b ∷ [])
        (at_too taken s (begin_local (begin Between s)) fed pieces (b ∷ []) refl refl refl refl here) refl place
        (sign 58 is ∙ kept_then 58 ∙ sym (append-nil (s.kept ++ 58 ∷ [])), (prefix_name, refl)))
        (λ colon. by_cases Goal (is_name_byte b) (keep b (begin InWord s)) _
        (λ is.
        goes_on taken InWord (keep b (begin InWord s)) fed pieces (b ∷ [])
        (at_too taken s (keep b (begin InWord s)) fed pieces (b ∷ []) refl refl refl refl here) refl place
        (kept_then b, (some_more s.kept b, all_more is_word_byte s.kept b (ap (list_all is_word_byte) none) (word_byte b is colon))))
        (λ name. by_cases Goal (is_blank b) (turn Between s) (take_mark b s) blank_ends
        (λ blank. mark_law blank name)))

-- what the byte at hand leaves behind a token that it ends
split_off : (bytes : List ℕ) (b : ℕ) (rest : List ℕ) → rest ≡ bytes → rest ++ b ∷ [] ≡ bytes ++ b ∷ []
split_off bytes b rest is = ap (λ (xs : List ℕ). xs ++ b ∷ []) is

module _ (taken : List Token) (s : State) (fed : List ℕ) (pieces : List Piece) (rest : List ℕ) (b : ℕ)
    (here : IsAt taken s fed pieces (rest ++ b ∷ [])) where
  -- the token ends before the byte at hand
  ended : (kind : Kind) (t : State) → IsAt taken t fed pieces (rest ++ b ∷ []) → t.from ≡ length_of pieces → t.kept ≡ []
      → IsSpelled kind rest → IsKind kind → ((more : List ℕ) → IsLongest (Lexeme kind rest) (b ∷ more))
      → IsOpen taken (count (take_between b (end kind t))) fed
  ended kind t at_t from none spells is longest =
      between_law taken (end kind t) fed (pieces ++ Lexeme kind rest ∷ []) b
      (at_end taken t fed pieces (rest ++ b ∷ []) (b ∷ []) kind rest at_t from
      (begins_ahead (rest ++ b ∷ []) (b ∷ []) (Lexeme kind rest) refl (is, spells) longest))
      none

  -- the token ends with the byte at hand
  closed_by : (kind : Kind) (t : State) → IsAt taken t fed pieces (rest ++ b ∷ []) → t.from ≡ length_of pieces → t.kept ≡ []
      → IsSpelled kind (rest ++ b ∷ []) → IsKind kind → ((more : List ℕ) → IsLongest (Lexeme kind (rest ++ b ∷ [])) more)
      → IsOpen taken (count (end kind t)) fed
  closed_by kind t at_t from none spells is longest =
      goes_on taken Between (end kind t) fed (pieces ++ Lexeme kind (rest ++ b ∷ []) ∷ []) []
      (at_end taken t fed pieces (rest ++ b ∷ []) [] kind (rest ++ b ∷ []) at_t from
      (begins_ahead (rest ++ b ∷ []) [] (Lexeme kind (rest ++ b ∷ [])) (sym (append-nil (rest ++ b ∷ []))) (is, spells) longest))
      refl tt (refl, none)

  without : IsAt taken (without_kept s) fed pieces (rest ++ b ∷ [])
  without = at_too taken s (without_kept s) fed pieces (rest ++ b ∷ []) refl refl refl refl here

  abbrev Then : State → Type 0
  Then t = IsOpen taken (count t) fed

  same : (t : State) → t.closed ≡ s.closed → t.fault ≡ s.fault → t.tokens ≡ s.tokens → t.place ≡ s.place → IsAt taken t fed pieces (rest ++ b ∷ [])
  same t closed fault tokens place = at_too taken s t fed pieces (rest ++ b ∷ []) closed fault tokens place here

  pub comment_law : s.mode ≡ InComment → IsUnfinished InComment s rest → Then (take_in_comment b s)
  unfolding take_in_comment
  comment_law mode (comment, is, plain, none) =
      by_cases Then (ends_line b) (take_between b s) s
      (λ line.
      between_law taken s fed (pieces ++ Comment comment ∷ []) b
      (at_gap taken s fed pieces (rest ++ b ∷ []) (b ∷ []) (Comment comment) here (λ at. refl)
      (begins_ahead (rest ++ b ∷ []) (b ∷ []) (Comment comment) (split_off (spelled (Comment comment)) b rest is) plain (λ more. inr line)))
      none)
      (λ inside.
      goes_on taken InComment s fed pieces (rest ++ b ∷ []) here mode tt
      (comment ++ b ∷ [], split_off (spelled (Comment comment)) b rest is, all_more (λ c. not (ends_line c)) comment b plain (ap not inside), none))

  module _ (from : s.from ≡ length_of pieces) where
    pub word_law : s.mode ≡ InWord → IsUnfinished InWord s rest → Then (take_in_word b s)
    unfolding take_in_word
    word_law mode (is, (some, word)) =
        by_cases Then (b == 58) (take_colon s) _
        (λ colon.
        let spells : rest ++ b ∷ [] ≡ s.kept ++ 58 ∷ [] = split_off s.kept b rest is ∙ ap (λ (x : ℕ). s.kept ++ x ∷ []) (eqb-true b 58 colon) in
        by_cases Then (is_underscore s.kept) (begin_node s) (begin_local s)
        (λ node.
        goes_on taken InNode (begin_node s) fed pieces (rest ++ b ∷ []) (same (begin_node s) refl refl refl refl) refl from
        (spells ∙ ap (λ (xs : List ℕ). xs ++ 58 ∷ []) (underscore_true s.kept node), refl))
        (λ other.
        goes_on taken InLocal (begin_local s) fed pieces (rest ++ b ∷ []) (same (begin_local s) refl refl refl refl) refl from
        (spells ∙ sym (append-nil (s.kept ++ 58 ∷ [])), ((s.kept, refl, underscore_false s.kept other, word), refl))))
        (λ colon. by_cases Then (is_name_byte b) (keep b s) (take_between b (end_word s))
        (λ name.
        goes_on taken InWord (keep b s) fed pieces (rest ++ b ∷ []) (same (keep b s) refl refl refl refl) mode from
        (split_off s.kept b rest is, (some_more s.kept b, all_more is_word_byte s.kept b word (word_byte b name colon))))
        (λ name. ended (Word s.kept) (without_kept s) without from refl is (some, word) (λ more. name)))

    pub local_law : s.mode ≡ InLocal → IsUnfinished InLocal s rest → Then (take_in_local b s)
    unfolding take_in_local
    local_law mode (is, (prefix, local)) =
        by_cases Then (is_name_byte b) (keep b s) (take_between b (end_short s))
        (λ name.
        goes_on taken InLocal (keep b s) fed pieces (rest ++ b ∷ []) (same (keep b s) refl refl refl refl) mode from
        (split_off (s.prefix ++ s.kept) b rest is ∙ append_assoc s.prefix s.kept (b ∷ []), (prefix, all_more is_name_byte s.kept b local name)))
        (λ name.
        ended (Short s.prefix s.kept) (without_prefix (without_kept s)) (same (without_prefix (without_kept s)) refl refl refl refl) from refl is
        (prefix, local) (λ more. name))

    pub node_law : s.mode ≡ InNode → IsUnfinished InNode s rest → Then (take_in_node b s)
    unfolding take_in_node
    node_law mode (is, label) =
        by_cases Then (is_name_byte b) (keep b s) (take_between b (end_node s))
        (λ name.
        goes_on taken InNode (keep b s) fed pieces (rest ++ b ∷ []) (same (keep b s) refl refl refl refl) mode from
        (split_off (95 ∷ 58 ∷ s.kept) b rest is, all_more is_name_byte s.kept b label name))
        (λ name. ended (Node s.kept) (without_kept s) without from refl is label (λ more. name))

    iri_refused : rest ≡ 60 ∷ s.kept → list_all is_iri_byte s.kept ≡ true → is_iri_byte b ≡ false → (s.kept ≡ []) ⊎ ((b == 62) ≡ false) → Then (refuse s)
    iri_refused is all other h =
        refuses taken s fed pieces (rest ++ b ∷ []) here from
        (λ more. subst (λ (xs : List ℕ). IsBad (xs ++ more)) (sym (split_off (60 ∷ s.kept) b rest is)) (iri_bad s.kept b more all other h))

    pub iri_law : s.mode ≡ InIri → IsUnfinished InIri s rest → Then (take_in_iri b s)
    unfolding take_in_iri
    iri_law mode (is, all) =
        by_cases Then (is_iri_byte b) (keep b s) _
        (λ iri.
        goes_on taken InIri (keep b s) fed pieces (rest ++ b ∷ []) (same (keep b s) refl refl refl refl) mode from
        (split_off (60 ∷ s.kept) b rest is, all_more is_iri_byte s.kept b all iri))
        (λ other. by_cases Then (is_empty s.kept) (refuse s) _
        (λ empty. iri_refused is all other (inl (empty_true s.kept empty)))
        (λ some. by_cases Then (b == 62) (end_iri s) (refuse s)
        (λ closing.
        closed_by (FullIri s.kept) (without_kept s) without from refl
        (split_off (60 ∷ s.kept) b rest is ∙ ap (λ (x : ℕ). (60 ∷ s.kept) ++ x ∷ []) (eqb-true b 62 closing))
        (empty_false s.kept some, all) (λ more. tt))
        (λ other_end. iri_refused is all other (inr other_end))))

    pub text_law : s.mode ≡ InText → IsUnfinished InText s rest → Then (take_in_text b s)
    unfolding take_in_text
    text_law mode (text, is, none) =
        let quoted : List ℕ = 34 ∷ escaped text in
        by_cases Then (b == 34) (end Quoted s) _
        (λ quote.
        closed_by Quoted s here from none (text, split_off quoted b rest is ∙ ap (λ (x : ℕ). quoted ++ x ∷ []) (eqb-true b 34 quote)) tt (λ more. tt))
        (λ quote. by_cases Then (b == 92) (turn AfterBackslash s) s
        (λ slash.
        goes_on taken AfterBackslash (turn AfterBackslash s) fed pieces (rest ++ b ∷ []) (same (turn AfterBackslash s) refl refl refl refl) refl from
        (text, split_off quoted b rest is ∙ ap (λ (x : ℕ). quoted ++ x ∷ []) (eqb-true b 92 slash), none))
        (λ slash.
        goes_on taken InText s fed pieces (rest ++ b ∷ []) here mode from (
          text ++ b ∷ [],
          split_off quoted b rest is ∙ ap (λ (xs : List ℕ). 34 ∷ xs) (escaped_plain text b (or_from (b == 34) (b == 92) quote slash)),
          none,
        )))

    pub backslash_law : s.mode ≡ AfterBackslash → IsUnfinished AfterBackslash s rest → Then (take_after_backslash b s)
    unfolding take_after_backslash
    backslash_law mode (text, is, none) =
        let quoted : List ℕ = (34 ∷ escaped text) ++ 92 ∷ [] in
        by_cases Then (b == 34 || b == 92) (turn InText s) (refuse s)
        (λ mark.
        goes_on taken InText (turn InText s) fed pieces (rest ++ b ∷ []) (same (turn InText s) refl refl refl refl) refl from
        (text ++ b ∷ [], split_off quoted b rest is ∙ ap (λ (xs : List ℕ). 34 ∷ xs) (escaped_mark text b mark), none))
        (λ other.
        refuses taken s fed pieces (rest ++ b ∷ []) here from
        (λ more. subst (λ (xs : List ℕ). IsBad (xs ++ more)) (sym (split_off quoted b rest is)) (escape_bad text b more other)))

    pub caret_law : s.mode ≡ AfterCaret → IsUnfinished AfterCaret s rest → Then (take_after_caret b s)
    unfolding take_after_caret
    caret_law mode (is, none) =
        by_cases Then (b == 94) (end Carets s) (refuse s)
        (λ caret.
        closed_by Carets s here from none
        (split_off (94 ∷ []) b rest is ∙ ap (λ (x : ℕ). 94 ∷ x ∷ []) (eqb-true b 94 caret)) tt (λ more. tt))
        (λ other.
        refuses taken s fed pieces (rest ++ b ∷ []) here from
        (λ more. subst (λ (xs : List ℕ). IsBad (xs ++ more)) (sym (split_off (94 ∷ []) b rest is)) (caret_bad b more other)))

    pub at_law : s.mode ≡ AfterAt → IsUnfinished AfterAt s rest → Then (take_after_at b s)
    unfolding take_after_at
    at_law mode (is, none) =
        by_cases Then (is_letter b) (turn InTag s) (refuse s)
        (λ letter.
        goes_on taken InTag (turn InTag s) fed pieces (rest ++ b ∷ []) (same (turn InTag s) refl refl refl refl) refl from
        ((b ∷ [], split_off (64 ∷ []) b rest is, letter, and_from (is_lang_byte b) true (letter_in_lang b letter) refl), none))
        (λ other.
        refuses taken s fed pieces (rest ++ b ∷ []) here from
        (λ more. subst (λ (xs : List ℕ). IsBad (xs ++ more)) (sym (split_off (64 ∷ []) b rest is)) (at_bad b more other)))

    pub tag_law : s.mode ≡ InTag → IsUnfinished InTag s rest → Then (take_in_tag b s)
    unfolding take_in_tag
    tag_law mode ((t, is, letter, tag), none) =
        by_cases Then (is_lang_byte b) s (take_between b (end Lang s))
        (λ lang.
        goes_on taken InTag s fed pieces (rest ++ b ∷ []) here mode from (
          (t ++ b ∷ [], split_off (64 ∷ t) b rest is, begins_more is_letter t (b ∷ []) letter, all_more is_lang_byte t b tag lang),
          none,
        ))
        (λ other. ended Lang s here from none (t, is, letter, tag) tt (λ more. other))
