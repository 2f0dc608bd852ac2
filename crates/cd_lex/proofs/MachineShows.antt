-- What the state of a lexer tells of the text that it was fed.
use Rattle.std.proofs.Common.{◌≡◌, ◌⊎◌, ℕ, ◌+◌, Bool, true, false, List, [], ◌∷◌, ◌++◌, length, refl, sym, ap, subst, ◌∙◌, inl, inr, arith, append_assoc, append-nil, length-append}
use Rattle.std.specs.Prelude.{Option, Some, None}
use Rattle.cd_base.specs.Iri.{is_iri_byte}
use Rattle.cd_lex.specs.declared.token.Kind.TheVariants.{Carets, Word, Short, Node, FullIri, Quoted, Lang}
use Rattle.cd_lex.specs.declared.token.Token.{Token}
use Rattle.cd_lex.specs.declared.token.LexFault.{LexFault}
use Rattle.cd_lex.specs.declared.token.LexFault.TheVariants.{BadByte, Memory}
use Rattle.cd_lex.specs.declared.machine.Mode.{Mode}
use Rattle.cd_lex.specs.declared.machine.Mode.TheVariants.{Between, InComment, InWord, InLocal, InNode, InIri, InText, AfterBackslash, AfterCaret, AfterAt, InTag}
use Rattle.cd_lex.specs.Showing.{ShowsTokens, ShowsBad}
use Rattle.cd_lex.specs.Tokens.{is_name_byte, is_lang_byte, is_letter, Piece, Comment, Lexeme, escaped, spelled, IsPiece, IsLongest, BeginsWith, IsCut, IsBad, placed, length_of, Ending, AtEnd, AtBad, HasItems}
use Rattle.cd_lex.specs.Machine.{State}
use Rattle.cd_lex.specs.Lexing.{IsCutAhead, IsUnfinished, IsBegunAt, IsAccount, IsLexing, AreFirst, AreAll}
use Rattle.cd_lex.proofs.CutLaws.{cut_append, cut_front, end_is_stuck, placed-append, length_of-append, items_unique, tokens_first, shows_bad}
use Rattle.cd_lex.proofs.MachineBad.{iri_unended, string_unended, escape_unended, caret_unended, at_unended}
use Rattle.cd_lex.proofs.MachineAhead.{ahead_now, account_at}
use Rattle.cd_lex.proofs.MachineSteps.{all_more, some_more, begins_more, escaped_mark}

-- ---- a bad byte

bad_shown : (fed : List ℕ) (pieces : List Piece) (rest : List ℕ) (n : ℕ) → IsCutAhead fed pieces rest → n ≡ length_of pieces → ((more : List ℕ) → IsBad (rest ++ more))
    → ShowsBad fed n
bad_shown fed pieces rest n ahead is bad = subst (ShowsBad fed) (sym is) (shows_bad fed pieces (λ (more : List ℕ). rest ++ more) ahead bad)

pub shows_refused : (s : State) (fed : List ℕ) (taken : List Token) (n : ℕ) → s.closed ≡ false → s.fault ≡ Some (BadByte n) → IsLexing s fed taken → ShowsBad fed n
shows_refused s fed taken n closed fault h =
    let account : IsAccount false (Some (BadByte n)) s fed h.pieces h.rest = account_at s fed h.pieces h.rest false (Some (BadByte n)) closed fault h.account in
    bad_shown fed h.pieces h.rest n account.0 account.1 account.2

items_at_bad : (s : State) (fed : List ℕ) (taken tokens : List Token) (n : ℕ) (closed : Bool) (pieces : List Piece) (rest : List ℕ) → tokens ≡ placed 0 pieces
    → IsAccount closed (Some (BadByte n)) s fed pieces rest → HasItems fed tokens (AtBad n)
items_at_bad s fed taken tokens n false pieces rest ended (ahead, is, bad) =
    (pieces, rest, ahead_now fed rest pieces ahead, subst IsBad (append-nil rest) (bad []), ended, is)
items_at_bad s fed taken tokens n true pieces rest ended (cut, is, bad) = (pieces, rest, cut, bad, ended, is)

pub all_before_bad : (s : State) (fed : List ℕ) (taken : List Token) (n : ℕ) → s.fault ≡ Some (BadByte n) → IsLexing s fed taken → HasItems fed (taken ++ s.tokens) (AtBad n)
all_before_bad s fed taken n fault h =
    items_at_bad s fed taken (taken ++ s.tokens) n s.closed h.pieces h.rest h.ended
    (account_at s fed h.pieces h.rest s.closed (Some (BadByte n)) refl fault h.account)

-- ---- the end

pub all_before_end : (s : State) (fed : List ℕ) (taken : List Token) → s.closed ≡ true → s.fault ≡ None → IsLexing s fed taken
    → HasItems fed (taken ++ s.tokens) (AtEnd (length fed))
all_before_end s fed taken closed fault h =
    let account : IsAccount true None s fed h.pieces h.rest = account_at s fed h.pieces h.rest true None closed fault h.account in
    (h.pieces, subst (IsCut fed h.pieces) account.1 account.0, h.ended, refl)

-- ---- the rest of an unfinished piece can always be completed

abbrev IsCompleted : List ℕ → List ℕ → Type 0
IsCompleted rest more = (pieces : List Piece) × IsCut (rest ++ more) pieces []

one_piece : (rest more : List ℕ) (piece : Piece) → rest ++ more ≡ spelled piece → IsPiece piece → IsLongest piece [] → BeginsWith (rest ++ more) piece []
one_piece rest more piece spells is longest = record { split = spells ∙ sym (append-nil (spelled piece)); is_piece = is; is_longest = longest }

completed_by : (rest more : List ℕ) (piece : Piece) → rest ++ more ≡ spelled piece → IsPiece piece → IsLongest piece [] → (m : List ℕ) × IsCompleted rest m
completed_by rest more piece spells is longest = (more, (piece ∷ [], ([], one_piece rest more piece spells is longest, refl)))

then : (rest front more : List ℕ) → rest ≡ front → rest ++ more ≡ front ++ more
then rest front more is = ap (λ (xs : List ℕ). xs ++ more) is

as_it_is : (rest front : List ℕ) → rest ≡ front → rest ++ [] ≡ front
as_it_is rest front is = append-nil rest ∙ is

completed : (mode : Mode) (s : State) (rest : List ℕ) → IsUnfinished mode s rest → (more : List ℕ) × IsCompleted rest more
completed Between s rest (none, empty) = ([], ([], as_it_is rest [] none))
completed InComment s rest (comment, is, plain, none) = completed_by rest [] (Comment comment) (as_it_is rest (35 ∷ comment) is) plain (inl refl)
completed InWord s rest (is, valid) = completed_by rest [] (Lexeme (Word s.kept) (rest ++ [])) refl (valid, as_it_is rest s.kept is) refl
completed InLocal s rest (is, valid) = completed_by rest [] (Lexeme (Short s.prefix s.kept) (rest ++ [])) refl (valid, as_it_is rest (s.prefix ++ s.kept) is) refl
completed InNode s rest (is, valid) = completed_by rest [] (Lexeme (Node s.kept) (rest ++ [])) refl (valid, as_it_is rest (95 ∷ 58 ∷ s.kept) is) refl
completed InIri s rest (is, all) =
    completed_by rest (97 ∷ 62 ∷ []) (Lexeme (FullIri (s.kept ++ 97 ∷ [])) (rest ++ 97 ∷ 62 ∷ [])) refl (
      (some_more s.kept 97, all_more is_iri_byte s.kept 97 all refl),
      then rest (60 ∷ s.kept) (97 ∷ 62 ∷ []) is ∙ sym (append_assoc (60 ∷ s.kept) (97 ∷ []) (62 ∷ [])),
    ) tt
completed InText s rest (text, is, none) =
    completed_by rest (34 ∷ []) (Lexeme Quoted (rest ++ 34 ∷ [])) refl (tt, (text, then rest (34 ∷ escaped text) (34 ∷ []) is)) tt
completed AfterBackslash s rest (text, is, none) =
    completed_by rest (92 ∷ 34 ∷ []) (Lexeme Quoted (rest ++ 92 ∷ 34 ∷ [])) refl (
      tt,
      (
        text ++ 92 ∷ [],
        then rest ((34 ∷ escaped text) ++ 92 ∷ []) (92 ∷ 34 ∷ []) is
            ∙ sym (append_assoc ((34 ∷ escaped text) ++ 92 ∷ []) (92 ∷ []) (34 ∷ []))
            ∙ ap (λ (xs : List ℕ). 34 ∷ xs ++ 34 ∷ []) (escaped_mark text 92 refl),
      ),
    ) tt
completed AfterCaret s rest (is, empty) =
    completed_by rest (94 ∷ []) (Lexeme Carets (rest ++ 94 ∷ [])) refl (tt, then rest (94 ∷ []) (94 ∷ []) is) tt
completed AfterAt s rest (is, empty) =
    completed_by rest (97 ∷ []) (Lexeme Lang (rest ++ 97 ∷ [])) refl (tt, (97 ∷ [], then rest (64 ∷ []) (97 ∷ []) is, refl, refl)) refl
completed InTag s rest ((t, is, letter, tag), none) =
    completed_by rest [] (Lexeme Lang (rest ++ [])) refl (tt, (t, as_it_is rest (64 ∷ t) is, letter, tag)) refl

end_is_not_bad : (m n : ℕ) → AtEnd m ≡ AtBad n → ⊥
end_is_not_bad m n h = cc

none_shown_of : (s : State) (fed : List ℕ) (pieces : List Piece) (rest : List ℕ) (n : ℕ) → IsAccount false None s fed pieces rest → ShowsBad fed n → ⊥
none_shown_of s fed pieces rest n (ahead, place, from, unfinished) shows =
    let (more, (later, cut)) = completed s.mode s rest unfinished in
    let whole : IsCut (fed ++ more) (pieces ++ later) [] = cut_append (fed ++ more) (rest ++ more) [] pieces later (ahead more) cut in
    end_is_not_bad (length (fed ++ more)) n (shows more (placed 0 (pieces ++ later)) (AtEnd (length (fed ++ more))) (pieces ++ later, whole, refl, refl))

pub none_shown : (s : State) (fed : List ℕ) (taken : List Token) (n : ℕ) → s.closed ≡ false → s.fault ≡ None → IsLexing s fed taken → ShowsBad fed n → ⊥
none_shown s fed taken n closed fault h =
    none_shown_of s fed h.pieces h.rest n (account_at s fed h.pieces h.rest false None closed fault h.account)

-- ---- the ended tokens are shown

shown_ahead : (fed : List ℕ) (tokens later : List Token) (pieces : List Piece) (rest : List ℕ) → tokens ++ later ≡ placed 0 pieces → IsCutAhead fed pieces rest
    → ShowsTokens fed tokens
shown_ahead fed tokens later pieces rest ended ahead = (pieces, later, sym ended, λ more. (rest ++ more, ahead more))

shown_by : (fault : Option LexFault) (s : State) (fed : List ℕ) (tokens later : List Token) (pieces : List Piece) (rest : List ℕ) → tokens ++ later ≡ placed 0 pieces
    → IsAccount false fault s fed pieces rest → ShowsTokens fed tokens
shown_by None s fed tokens later pieces rest ended (ahead, place, from, unfinished) = shown_ahead fed tokens later pieces rest ended ahead
shown_by (Some (BadByte n)) s fed tokens later pieces rest ended (ahead, place, bad) = shown_ahead fed tokens later pieces rest ended ahead
shown_by (Some Memory) s fed tokens later pieces rest ended h = absurd h

ended_by : (fault : Option LexFault) (s : State) (fed : List ℕ) (tokens : List Token) (pieces : List Piece) (rest : List ℕ) → tokens ≡ placed 0 pieces
    → IsAccount true fault s fed pieces rest → (ending : Ending) × HasItems fed tokens ending
ended_by None s fed tokens pieces rest ended (cut, none) = (AtEnd (length fed), (pieces, subst (IsCut fed pieces) none cut, ended, refl))
ended_by (Some (BadByte n)) s fed tokens pieces rest ended (cut, is, bad) = (AtBad n, (pieces, rest, cut, bad, ended, is))
ended_by (Some Memory) s fed tokens pieces rest ended h = absurd h

first_by : (closed : Bool) (s : State) (fed : List ℕ) (tokens later : List Token) (pieces : List Piece) (rest : List ℕ) → tokens ++ later ≡ placed 0 pieces
    → IsAccount closed s.fault s fed pieces rest → AreFirst closed fed tokens
first_by false s fed tokens later pieces rest ended h = shown_by s.fault s fed tokens later pieces rest ended h
first_by true s fed tokens later pieces rest ended h =
    let (ending, has) = ended_by s.fault s fed (tokens ++ later) pieces rest ended h in (later, ending, has)

pub are_first : (s : State) (fed : List ℕ) (taken later : List Token) (token : Token) → s.tokens ≡ token ∷ later → IsLexing s fed taken
    → AreFirst s.closed fed (taken ++ token ∷ [])
are_first s fed taken later token is h =
    first_by s.closed s fed (taken ++ token ∷ []) later h.pieces h.rest
    (append_assoc taken (token ∷ []) later ∙ ap (λ (ts : List Token). taken ++ ts) (sym is) ∙ h.ended) h.account

-- ---- no further token is shown

too_long : (taken later : List Token) (token : Token) → taken ≡ (taken ++ token ∷ []) ++ later → ⊥
too_long taken later token h = omega (arith, ap length h, length-append (taken ++ token ∷ []) later, length-append taken (token ∷ []))

-- a text of which the taken tokens are all tokens
no_more : (fed : List ℕ) (taken : List Token) (token : Token) (ending : Ending) → HasItems fed taken ending → ShowsTokens fed (taken ++ token ∷ []) → ⊥
no_more fed taken token ending has shows =
    let (later, is) = tokens_first fed (taken ++ token ∷ []) shows [] taken ending (subst (λ (xs : List ℕ). HasItems xs taken ending) (sym (append-nil fed)) has) in
    too_long taken later token is

-- what has one piece more ends with that piece or is a front of what has one less
last_or_front : (p later pieces : List Piece) (x : Piece) → pieces ++ x ∷ [] ≡ p ++ later → (p ≡ pieces ++ x ∷ []) ⊎ ((more : List Piece) × (pieces ≡ p ++ more))
last_or_front [] later pieces x h = inr (pieces, refl)
last_or_front (a ∷ []) later [] x h =
    let head : a ≡ x = cc in inl (ap (λ (y : Piece). y ∷ []) head)
last_or_front (a ∷ c ∷ p) later [] x h = absurd cc
last_or_front (a ∷ p) later (b ∷ pieces) x h =
    let head : a ≡ b = cc in
    let tails : pieces ++ x ∷ [] ≡ p ++ later = cc in
    elim (last_or_front p later pieces x tails) [
      | inl same ↦ inl (ap (λ (ps : List Piece). a ∷ ps) same ∙ ap (λ (y : Piece). y ∷ (pieces ++ x ∷ [])) head)
      | inr (more, is) ↦ inr (more, ap (λ (ps : List Piece). b ∷ ps) is ∙ ap (λ (y : Piece). y ∷ (p ++ more)) (sym head))
    ]

module _ (fed : List ℕ) (taken : List Token) (token : Token) (pieces : List Piece) (rest : List ℕ) (ended : taken ++ [] ≡ placed 0 pieces)
    (ahead : IsCutAhead fed pieces rest) where
  -- the pieces that show a further token are no front of those before it
  no_front : (p more : List Piece) (after : List Token) → placed 0 p ≡ (taken ++ token ∷ []) ++ after → pieces ≡ p ++ more → ⊥
  no_front p more after are is =
      let behind : List Token = placed (0 + length_of p) more in
      let e : taken ++ [] ≡ ((taken ++ token ∷ []) ++ after) ++ behind
      = ended ∙ ap (placed 0) is ∙ placed-append 0 p more ∙ ap (λ (ts : List Token). ts ++ behind) are in
      omega (
        arith,
        ap length e,
        length-append taken [],
        length-append ((taken ++ token ∷ []) ++ after) behind,
        length-append (taken ++ token ∷ []) after,
        length-append taken (token ∷ []),
      )

  -- they are the pieces before it and each one that the rest can become
  shown_are : (p : List Piece) (after : List Token) → placed 0 p ≡ (taken ++ token ∷ []) ++ after → ((more : List ℕ) → (r : List ℕ) × IsCut (fed ++ more) p r)
      → (x : Piece) (more : List ℕ) → rest ++ more ≡ spelled x → IsPiece x → IsLongest x [] → p ≡ pieces ++ x ∷ []
  shown_are p after are cuts x more spells is longest =
      let whole : IsCut (fed ++ more) (pieces ++ x ∷ []) []
      = cut_append (fed ++ more) (rest ++ more) [] pieces (x ∷ []) (ahead more) ([], one_piece rest more x spells is longest, refl) in
      let (r, cut) = cuts more in
      let (later, front, onwards) = cut_front (fed ++ more) r [] p (pieces ++ x ∷ []) cut whole end_is_stuck in
      elim (last_or_front p later pieces x front) [ inl same ↦ same | inr (fewer, is) ↦ absurd (no_front p fewer after are is) ]

  -- no token is shown where the rest is a piece, and is one with one more byte too
  two_ends : ShowsTokens fed (taken ++ token ∷ []) → (a b : Piece) (c : ℕ) → rest ++ [] ≡ spelled a → IsPiece a → IsLongest a []
      → rest ++ c ∷ [] ≡ spelled b → IsPiece b → IsLongest b [] → ⊥
  two_ends (p, after, are, cuts) a b c spells_a is_a longest_a spells_b is_b longest_b =
      let same : pieces ++ a ∷ [] ≡ pieces ++ b ∷ []
      = sym (shown_are p after are cuts a [] spells_a is_a longest_a) ∙ shown_are p after are cuts b (c ∷ []) spells_b is_b longest_b in
      omega (
        arith,
        ap length_of same,
        length_of-append pieces (a ∷ []),
        length_of-append pieces (b ∷ []),
        ap length spells_a,
        ap length spells_b,
        length-append rest [],
        length-append rest (c ∷ []),
      )

none_further : (mode : Mode) (s : State) (fed : List ℕ) (taken : List Token) (token : Token) (pieces : List Piece) (rest : List ℕ) → taken ++ [] ≡ placed 0 pieces
    → IsCutAhead fed pieces rest → IsBegunAt mode s.from (length_of pieces) → IsUnfinished mode s rest → ShowsTokens fed (taken ++ token ∷ []) → ⊥
none_further Between s fed taken token pieces rest ended ahead from (none, empty) shows =
    no_more fed taken token (AtEnd (length fed)) (pieces, subst (IsCut fed pieces) none (ahead_now fed rest pieces ahead), sym (append-nil taken) ∙ ended, refl) shows
none_further InComment s fed taken token pieces rest ended ahead from (comment, is, plain, empty) shows =
    no_more fed taken token (AtEnd (length fed)) (
      pieces ++ Comment comment ∷ [],
      cut_append fed rest [] pieces (Comment comment ∷ []) (ahead_now fed rest pieces ahead)
          ([], record { split = is ∙ sym (append-nil (35 ∷ comment)); is_piece = plain; is_longest = inl refl }, refl),
      sym (append-nil taken) ∙ ended ∙ sym (append-nil (placed 0 pieces)) ∙ sym (placed-append 0 pieces (Comment comment ∷ [])),
      refl,
    ) shows
none_further InWord s fed taken token pieces rest ended ahead from (is, (some, word)) shows =
    two_ends fed taken token pieces rest ended ahead shows (Lexeme (Word s.kept) (rest ++ [])) (Lexeme (Word (s.kept ++ 97 ∷ [])) (rest ++ 97 ∷ [])) 97
    refl ((some, word), as_it_is rest s.kept is) refl
    refl ((some_more s.kept 97, all_more _ s.kept 97 word refl), then rest s.kept (97 ∷ []) is) refl
none_further InLocal s fed taken token pieces rest ended ahead from (is, (prefix, local)) shows =
    two_ends fed taken token pieces rest ended ahead shows (Lexeme (Short s.prefix s.kept) (rest ++ [])) (Lexeme (Short s.prefix (s.kept ++ 97 ∷ [])) (rest ++ 97 ∷ [])) 97
    refl ((prefix, local), as_it_is rest (s.prefix ++ s.kept) is) refl
    refl ((prefix, all_more is_name_byte s.kept 97 local refl), then rest (s.prefix ++ s.kept) (97 ∷ []) is ∙ append_assoc s.prefix s.kept (97 ∷ [])) refl
none_further InNode s fed taken token pieces rest ended ahead from (is, label) shows =
    two_ends fed taken token pieces rest ended ahead shows (Lexeme (Node s.kept) (rest ++ [])) (Lexeme (Node (s.kept ++ 97 ∷ [])) (rest ++ 97 ∷ [])) 97
    refl (label, as_it_is rest (95 ∷ 58 ∷ s.kept) is) refl
    refl (all_more is_name_byte s.kept 97 label refl, then rest (95 ∷ 58 ∷ s.kept) (97 ∷ []) is) refl
none_further InTag s fed taken token pieces rest ended ahead from ((t, is, letter, tag), empty) shows =
    two_ends fed taken token pieces rest ended ahead shows (Lexeme Lang (rest ++ [])) (Lexeme Lang (rest ++ 97 ∷ [])) 97
    refl (tt, (t, as_it_is rest (64 ∷ t) is, letter, tag)) refl
    refl (tt, (t ++ 97 ∷ [], then rest (64 ∷ t) (97 ∷ []) is, begins_more is_letter t (97 ∷ []) letter, all_more is_lang_byte t 97 tag refl)) refl
none_further InIri s fed taken token pieces rest ended ahead from (is, all) shows =
    no_more fed taken token (AtBad s.from)
    (pieces, rest, ahead_now fed rest pieces ahead, subst IsBad (sym is) (iri_unended s.kept all), sym (append-nil taken) ∙ ended, from) shows
none_further InText s fed taken token pieces rest ended ahead from (text, is, empty) shows =
    no_more fed taken token (AtBad s.from)
    (pieces, rest, ahead_now fed rest pieces ahead, subst IsBad (sym is) (string_unended text), sym (append-nil taken) ∙ ended, from) shows
none_further AfterBackslash s fed taken token pieces rest ended ahead from (text, is, empty) shows =
    no_more fed taken token (AtBad s.from)
    (pieces, rest, ahead_now fed rest pieces ahead, subst IsBad (sym is) (escape_unended text), sym (append-nil taken) ∙ ended, from) shows
none_further AfterCaret s fed taken token pieces rest ended ahead from (is, empty) shows =
    no_more fed taken token (AtBad s.from)
    (pieces, rest, ahead_now fed rest pieces ahead, subst IsBad (sym is) caret_unended, sym (append-nil taken) ∙ ended, from) shows
none_further AfterAt s fed taken token pieces rest ended ahead from (is, empty) shows =
    no_more fed taken token (AtBad s.from)
    (pieces, rest, ahead_now fed rest pieces ahead, subst IsBad (sym is) at_unended, sym (append-nil taken) ∙ ended, from) shows

first_again : (fed : List ℕ) (taken : List Token) (token : Token) (ending : Ending) → HasItems fed taken ending → AreFirst true fed (taken ++ token ∷ []) → ⊥
first_again fed taken token ending has (later, other, all) =
    too_long taken later token (items_unique fed taken ((taken ++ token ∷ []) ++ later) ending other has all).0

none_by : (closed : Bool) (fault : Option LexFault) (s : State) (fed : List ℕ) (taken : List Token) (token : Token) (pieces : List Piece) (rest : List ℕ)
    → taken ++ [] ≡ placed 0 pieces → IsAccount closed fault s fed pieces rest → AreFirst closed fed (taken ++ token ∷ []) → ⊥
none_by false None s fed taken token pieces rest ended (ahead, place, from, unfinished) first =
    none_further s.mode s fed taken token pieces rest ended ahead from unfinished first
none_by false (Some (BadByte n)) s fed taken token pieces rest ended h first =
    no_more fed taken token (AtBad n) (items_at_bad s fed taken taken n false pieces rest (sym (append-nil taken) ∙ ended) h) first
none_by false (Some Memory) s fed taken token pieces rest ended h first = absurd h
none_by true fault s fed taken token pieces rest ended h first =
    let (ending, has) = ended_by fault s fed taken pieces rest (sym (append-nil taken) ∙ ended) h in first_again fed taken token ending has first

none_waits : (s : State) (taken all : List Token) → s.tokens ≡ [] → taken ++ s.tokens ≡ all → taken ++ [] ≡ all
none_waits s taken all none ended = ap (λ (ts : List Token). taken ++ ts) (sym none) ∙ ended

pub none_first : (s : State) (fed : List ℕ) (taken : List Token) (token : Token) → s.tokens ≡ [] → IsLexing s fed taken → AreFirst s.closed fed (taken ++ token ∷ []) → ⊥
none_first s fed taken token none h =
    none_by s.closed s.fault s fed taken token h.pieces h.rest (none_waits s taken (placed 0 h.pieces) none h.ended) h.account

all_by : (closed : Bool) (fault : Option LexFault) (s : State) (fed : List ℕ) (taken : List Token) (pieces : List Piece) (rest : List ℕ) → taken ≡ placed 0 pieces
    → IsAccount closed fault s fed pieces rest → AreAll closed fault fed taken
all_by false None s fed taken pieces rest ended h = tt
all_by true None s fed taken pieces rest ended (cut, none) = (pieces, subst (IsCut fed pieces) none cut, ended, refl)
all_by false (Some (BadByte n)) s fed taken pieces rest ended h = items_at_bad s fed taken taken n false pieces rest ended h
all_by true (Some (BadByte n)) s fed taken pieces rest ended h = items_at_bad s fed taken taken n true pieces rest ended h
all_by false (Some Memory) s fed taken pieces rest ended h = tt
all_by true (Some Memory) s fed taken pieces rest ended h = tt

pub are_all : (s : State) (fed : List ℕ) (taken : List Token) → s.tokens ≡ [] → IsLexing s fed taken → AreAll s.closed s.fault fed taken
are_all s fed taken none h =
    all_by s.closed s.fault s fed taken h.pieces h.rest (sym (append-nil taken) ∙ none_waits s taken (placed 0 h.pieces) none h.ended) h.account
