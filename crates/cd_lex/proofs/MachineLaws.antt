-- Whole runs of the machine, and its end, keep what its state means.
use Rattle.std.proofs.Common.{◌≡◌, ℕ, ◌+◌, Bool, true, false, ◌||◌, List, [], ◌∷◌, ◌++◌, length, refl, sym, ap, subst, ◌∙◌, inl, cond, arith, append_assoc, append-nil, length-append}
use Rattle.std.specs.Prelude.{Option, Some, None, is_some}
use Rattle.cd_lex.specs.declared.token.Kind.{Kind}
use Rattle.cd_lex.specs.declared.token.Kind.TheVariants.{Word, Short, Node, Lang}
use Rattle.cd_lex.specs.declared.token.Token.{Token}
use Rattle.cd_lex.specs.declared.token.LexFault.{LexFault}
use Rattle.cd_lex.specs.declared.token.LexFault.TheVariants.{BadByte, Memory}
use Rattle.cd_lex.specs.declared.machine.Mode.{Mode}
use Rattle.cd_lex.specs.declared.machine.Mode.TheVariants.{Between, InComment, InWord, InLocal, InNode, InIri, InText, AfterBackslash, AfterCaret, AfterAt, InTag}
use Rattle.cd_lex.specs.Tokens.{Piece, Comment, Lexeme, escaped, spelled, IsKind, IsSpelled, IsPiece, IsLongest, IsCut, IsBad, placed, length_of}
use Rattle.cd_lex.specs.Machine.{State, start, without_kept, without_prefix, refuse, end, take_by, count, step, run, finish_by, close, closing}
use Rattle.cd_lex.specs.Lexing.{IsCutAhead, IsUnfinished, IsBegunAt, IsAccount, IsLexing}
use Rattle.cd_lex.proofs.CutLaws.{cut_append, placed-append}
use Rattle.cd_lex.proofs.MachineBad.{iri_unended, string_unended, escape_unended, caret_unended, at_unended}
use Rattle.cd_lex.proofs.MachineAhead.{ahead_byte, ahead_now, IsOpen, account_at, lexing_from, IsAt, token_ended}
use Rattle.cd_lex.proofs.MachineSteps.{between_law, comment_law, word_law, local_law, node_law, iri_law, text_law, backslash_law, caret_law, at_law, tag_law}

-- ---- one byte

length_more : (fed : List ℕ) (b n : ℕ) → n ≡ length fed → n + 1 ≡ length (fed ++ b ∷ [])
length_more fed b n h = omega (arith, length-append fed (b ∷ []))

module _ (taken : List Token) (s : State) (fed : List ℕ) (b : ℕ) where
  -- the byte is one more of the rest
  taken_in : (pieces : List Piece) (rest : List ℕ) → s.closed ≡ false → s.fault ≡ None → taken ++ s.tokens ≡ placed 0 pieces
      → IsCutAhead fed pieces rest → s.place ≡ length fed → IsAt taken s (fed ++ b ∷ []) pieces (rest ++ b ∷ [])
  taken_in pieces rest closed fault ended ahead place = record {
    closed = closed;
    fault = fault;
    ended = ended;
    ahead = ahead_byte fed rest pieces b ahead;
    place = length_more fed b s.place place;
  }

  abbrev After : State → Type 0
  After t = IsOpen taken t (fed ++ b ∷ [])

  mode_law : (mode : Mode) (pieces : List Piece) (rest : List ℕ) → IsAt taken s (fed ++ b ∷ []) pieces (rest ++ b ∷ []) → s.mode ≡ mode
      → IsBegunAt mode s.from (length_of pieces) → IsUnfinished mode s rest → After (count (take_by mode b s))
  mode_law Between pieces rest at mode from (none, empty) =
      between_law taken s (fed ++ b ∷ []) pieces b
      (subst (λ (xs : List ℕ). IsAt taken s (fed ++ b ∷ []) pieces (xs ++ b ∷ [])) none at) empty
  mode_law InComment pieces rest at mode from h = comment_law taken s (fed ++ b ∷ []) pieces rest b at mode h
  mode_law InWord pieces rest at mode from h = word_law taken s (fed ++ b ∷ []) pieces rest b at from mode h
  mode_law InLocal pieces rest at mode from h = local_law taken s (fed ++ b ∷ []) pieces rest b at from mode h
  mode_law InNode pieces rest at mode from h = node_law taken s (fed ++ b ∷ []) pieces rest b at from mode h
  mode_law InIri pieces rest at mode from h = iri_law taken s (fed ++ b ∷ []) pieces rest b at from mode h
  mode_law InText pieces rest at mode from h = text_law taken s (fed ++ b ∷ []) pieces rest b at from mode h
  mode_law AfterBackslash pieces rest at mode from h = backslash_law taken s (fed ++ b ∷ []) pieces rest b at from mode h
  mode_law AfterCaret pieces rest at mode from h = caret_law taken s (fed ++ b ∷ []) pieces rest b at from mode h
  mode_law AfterAt pieces rest at mode from h = at_law taken s (fed ++ b ∷ []) pieces rest b at from mode h
  mode_law InTag pieces rest at mode from h = tag_law taken s (fed ++ b ∷ []) pieces rest b at from mode h

  -- after a bad byte nothing counts
  stays_bad : (n : ℕ) (pieces : List Piece) (rest : List ℕ) → s.closed ≡ false → s.fault ≡ Some (BadByte n) → taken ++ s.tokens ≡ placed 0 pieces
      → IsAccount false (Some (BadByte n)) s fed pieces rest → After s
  stays_bad n pieces rest closed fault ended (ahead, place, bad) = record {
    closed = closed;
    lexing =
        lexing_from taken s (fed ++ b ∷ []) pieces (rest ++ b ∷ []) false (Some (BadByte n)) closed fault ended
        (ahead_byte fed rest pieces b ahead, place, λ more. subst IsBad (sym (append_assoc rest (b ∷ []) more)) (bad (b ∷ more)));
  }

  step_by : (fault : Option LexFault) (pieces : List Piece) (rest : List ℕ) → s.closed ≡ false → s.fault ≡ fault → taken ++ s.tokens ≡ placed 0 pieces
      → IsAccount false fault s fed pieces rest → After (cond (is_some fault) s (count (take_by s.mode b s)))
  step_by None pieces rest closed fault ended (ahead, place, from, unfinished) =
      mode_law s.mode pieces rest (taken_in pieces rest closed fault ended ahead place) refl from unfinished
  step_by (Some (BadByte n)) pieces rest closed fault ended h = stays_bad n pieces rest closed fault ended h
  step_by (Some Memory) pieces rest closed fault ended h = absurd h

  pub step_law : IsOpen taken s fed → After (step s b)
  unfolding step
  step_law h =
      step_by s.fault h.lexing.pieces h.lexing.rest h.closed refl h.lexing.ended
      (account_at s fed h.lexing.pieces h.lexing.rest false s.fault h.closed refl h.lexing.account)

-- ---- whole runs

pub run_law : (taken : List Token) (bytes : List ℕ) (s : State) (fed : List ℕ) → IsOpen taken s fed → IsOpen taken (run s bytes) (fed ++ bytes)
run_law taken [] s fed h = subst (IsOpen taken s) (sym (append-nil fed)) h
run_law taken (b ∷ bytes) s fed h =
    subst (IsOpen taken (run (step s b) bytes)) (append_assoc fed (b ∷ []) bytes) (run_law taken bytes (step s b) (fed ++ b ∷ []) (step_law taken s fed b h))

pub start_law : IsLexing start [] []
start_law = record { pieces = []; rest = []; ended = refl; account = (λ more. refl, refl, tt, (refl, refl)) }

-- ---- the end of the input

module _ (taken : List Token) (s : State) (fed : List ℕ) where
  abbrev Ended : State → Type 0
  Ended t = IsLexing t fed taken

  closed_account : (fault : Option LexFault) (t : State) (pieces : List Piece) (rest : List ℕ) → IsAccount true fault s fed pieces rest → IsAccount true fault t fed pieces rest
  closed_account None t pieces rest h = h
  closed_account (Some (BadByte n)) t pieces rest h = h
  closed_account (Some Memory) t pieces rest h = h

  module _ (pieces : List Piece) (rest : List ℕ) (ended : taken ++ s.tokens ≡ placed 0 pieces) where
    module _ (ahead : IsCutAhead fed pieces rest) (fault : s.fault ≡ None) where
      cut_to_end : (piece : Piece) → rest ≡ spelled piece → IsPiece piece → IsLongest piece [] → IsCut fed (pieces ++ piece ∷ []) []
      cut_to_end piece is valid longest =
          cut_append fed rest [] pieces (piece ∷ []) (ahead_now fed rest pieces ahead)
          ([], record { split = is ∙ sym (append-nil (spelled piece)); is_piece = valid; is_longest = longest }, refl)

      token_at_end : (kind : Kind) (t : State) → t.fault ≡ s.fault → t.tokens ≡ s.tokens → t.from ≡ length_of pieces
          → IsSpelled kind rest → IsKind kind → IsLongest (Lexeme kind rest) [] → Ended (close (end kind t))
      token_at_end kind t same_fault same_tokens from is valid longest =
          lexing_from taken (close (end kind t)) fed (pieces ++ Lexeme kind rest ∷ []) [] true None refl (same_fault ∙ fault)
          (token_ended taken t.tokens kind rest t.from pieces (ap (λ (ts : List Token). taken ++ ts) same_tokens ∙ ended) from)
          (cut_to_end (Lexeme kind rest) refl (valid, is) longest, refl)

      unended : s.from ≡ length_of pieces → IsBad rest → Ended (close (refuse s))
      unended from bad =
          lexing_from taken (close (refuse s)) fed pieces rest true (Some (BadByte s.from)) refl refl ended (ahead_now fed rest pieces ahead, from, bad)

      unended_as : (front : List ℕ) → s.from ≡ length_of pieces → rest ≡ front → IsBad front → Ended (close (refuse s))
      unended_as front from is bad = unended from (subst IsBad (sym is) bad)

      finish_law : (mode : Mode) → IsBegunAt mode s.from (length_of pieces) → IsUnfinished mode s rest → Ended (close (finish_by mode s))
      finish_law Between from (none, empty) =
          lexing_from taken (close s) fed pieces rest true None refl fault ended (ahead_now fed rest pieces ahead, none)
      finish_law InComment from (comment, is, plain, none) =
          lexing_from taken (close s) fed (pieces ++ Comment comment ∷ []) [] true None refl fault
          (ended ∙ sym (append-nil (placed 0 pieces)) ∙ sym (placed-append 0 pieces (Comment comment ∷ [])))
          (cut_to_end (Comment comment) is plain (inl refl), refl)
      finish_law InWord from (is, valid) = token_at_end (Word s.kept) (without_kept s) refl refl from is valid refl
      finish_law InLocal from (is, valid) = token_at_end (Short s.prefix s.kept) (without_prefix (without_kept s)) refl refl from is valid refl
      finish_law InNode from (is, valid) = token_at_end (Node s.kept) (without_kept s) refl refl from is valid refl
      finish_law InIri from (is, all) = unended_as (60 ∷ s.kept) from is (iri_unended s.kept all)
      finish_law InText from (text, is, none) = unended_as (34 ∷ escaped text) from is (string_unended text)
      finish_law AfterBackslash from (text, is, none) = unended_as ((34 ∷ escaped text) ++ 92 ∷ []) from is (escape_unended text)
      finish_law AfterCaret from (is, empty) = unended_as (94 ∷ []) from is caret_unended
      finish_law AfterAt from (is, empty) = unended_as (64 ∷ []) from is at_unended
      finish_law InTag from (is, none) = token_at_end Lang s refl refl from is tt refl

    closing_by : (closed : Bool) (fault : Option LexFault) → s.closed ≡ closed → s.fault ≡ fault → IsAccount closed fault s fed pieces rest
        → Ended (cond (closed || is_some fault) (close s) (close (finish_by s.mode s)))
    closing_by true fault is_closed is_fault h =
        lexing_from taken (close s) fed pieces rest true fault refl is_fault ended (closed_account fault (close s) pieces rest h)
    closing_by false None is_closed is_fault (ahead, place, from, unfinished) = finish_law ahead is_fault s.mode from unfinished
    closing_by false (Some (BadByte n)) is_closed is_fault (ahead, place, bad) =
        lexing_from taken (close s) fed pieces rest true (Some (BadByte n)) refl is_fault ended
        (ahead_now fed rest pieces ahead, place, subst IsBad (append-nil rest) (bad []))
    closing_by false (Some Memory) is_closed is_fault h = absurd h

  pub closing_law : IsLexing s fed taken → Ended (closing s)
  unfolding closing
  closing_law h = closing_by h.pieces h.rest h.ended s.closed s.fault refl refl h.account
