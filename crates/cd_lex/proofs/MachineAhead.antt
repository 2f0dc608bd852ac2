-- Cuts that hold whatever follows, and what a lexer in the middle of a step has.
use Rattle.std.proofs.Common.{◌≡◌, ℕ, ◌+◌, Bool, false, List, [], ◌∷◌, ◌++◌, length, refl, sym, ap, subst, ◌∙◌, arith, append_assoc, append-nil}
use Rattle.std.specs.Prelude.{Option, Some, None}
use Rattle.cd_lex.specs.declared.token.Kind.{Kind}
use Rattle.cd_lex.specs.declared.token.Token.{Token}
use Rattle.cd_lex.specs.declared.token.LexFault.{LexFault}
use Rattle.cd_lex.specs.declared.token.LexFault.TheVariants.{BadByte}
use Rattle.cd_lex.specs.declared.machine.Mode.{Mode}
use Rattle.cd_lex.specs.Tokens.{Piece, Lexeme, spelled, IsPiece, IsLongest, BeginsWith, IsCut, IsBad, placed, length_of}
use Rattle.cd_lex.specs.Machine.{State, end, refuse, count}
use Rattle.cd_lex.specs.Lexing.{IsCutAhead, IsUnfinished, IsBegunAt, IsAccount, IsLexing}
use Rattle.cd_lex.proofs.CutLaws.{cut_append, cut_length, placed-append}

-- ---- cuts that hold whatever follows

pub ahead_byte : (fed rest : List ℕ) (pieces : List Piece) (b : ℕ) → IsCutAhead fed pieces rest → IsCutAhead (fed ++ b ∷ []) pieces (rest ++ b ∷ [])
ahead_byte fed rest pieces b ahead more =
    subst (λ (xs : List ℕ). IsCut xs pieces ((rest ++ b ∷ []) ++ more)) (sym (append_assoc fed (b ∷ []) more))
    (subst (λ (xs : List ℕ). IsCut (fed ++ b ∷ more) pieces xs) (sym (append_assoc rest (b ∷ []) more)) (ahead (b ∷ more)))

pub ahead_piece : (fed rest behind : List ℕ) (pieces : List Piece) (piece : Piece) → IsCutAhead fed pieces rest
    → ((more : List ℕ) → BeginsWith (rest ++ more) piece (behind ++ more)) → IsCutAhead fed (pieces ++ piece ∷ []) behind
ahead_piece fed rest behind pieces piece ahead first more =
    cut_append (fed ++ more) (rest ++ more) (behind ++ more) pieces (piece ∷ []) (ahead more) (behind ++ more, first more, refl)

pub begins_ahead : (rest behind : List ℕ) (piece : Piece) → rest ≡ spelled piece ++ behind → IsPiece piece
    → ((more : List ℕ) → IsLongest piece (behind ++ more)) → (more : List ℕ) → BeginsWith (rest ++ more) piece (behind ++ more)
begins_ahead rest behind piece split is longest more = record {
  split = ap (λ (xs : List ℕ). xs ++ more) split ∙ append_assoc (spelled piece) behind more;
  is_piece = is;
  is_longest = longest more;
}

pub ahead_now : (fed rest : List ℕ) (pieces : List Piece) → IsCutAhead fed pieces rest → IsCut fed pieces rest
ahead_now fed rest pieces ahead =
    subst (λ (xs : List ℕ). IsCut xs pieces rest) (append-nil fed)
    (subst (λ (xs : List ℕ). IsCut (fed ++ []) pieces xs) (append-nil rest) (ahead []))

pub ahead_length : (fed rest : List ℕ) (pieces : List Piece) → IsCutAhead fed pieces rest → length fed ≡ length_of pieces + length rest
ahead_length fed rest pieces ahead = cut_length fed rest pieces (ahead_now fed rest pieces ahead)

-- ---- a lexer that may be fed more

pub record IsOpen (taken : List Token) (s : State) (fed : List ℕ) : Type 0 where
  pub closed : s.closed ≡ false
  pub lexing : IsLexing s fed taken

-- what a state says of its account, where its flags are known
pub account_at : (s : State) (fed : List ℕ) (pieces : List Piece) (rest : List ℕ) (closed : Bool) (fault : Option LexFault) → s.closed ≡ closed → s.fault ≡ fault
    → IsAccount s.closed s.fault s fed pieces rest → IsAccount closed fault s fed pieces rest
account_at s fed pieces rest closed fault is_closed is_fault h =
    subst (λ (f : Option LexFault). IsAccount closed f s fed pieces rest) is_fault
    (subst (λ (c : Bool). IsAccount c s.fault s fed pieces rest) is_closed h)

pub lexing_from : (taken : List Token) (s : State) (fed : List ℕ) (pieces : List Piece) (rest : List ℕ) (closed : Bool) (fault : Option LexFault)
    → s.closed ≡ closed → s.fault ≡ fault → taken ++ s.tokens ≡ placed 0 pieces → IsAccount closed fault s fed pieces rest → IsLexing s fed taken
lexing_from taken s fed pieces rest closed fault is_closed is_fault ended h = record {
  pieces = pieces;
  rest = rest;
  ended = ended;
  account =
      subst (λ (c : Bool). IsAccount c s.fault s fed pieces rest) (sym is_closed)
      (subst (λ (f : Option LexFault). IsAccount closed f s fed pieces rest) (sym is_fault) h);
}

-- ---- a lexer in the middle of a step

-- with the byte at hand among the bytes fed
pub record IsAt (taken : List Token) (s : State) (fed : List ℕ) (pieces : List Piece) (rest : List ℕ) : Type 0 where
  pub closed : s.closed ≡ false
  pub fault : s.fault ≡ None
  pub ended : taken ++ s.tokens ≡ placed 0 pieces
  pub ahead : IsCutAhead fed pieces rest
  pub place : s.place + 1 ≡ length fed

module _ (taken : List Token) where
  -- the same of a state that differs in nothing of this
  pub at_too : (s t : State) (fed : List ℕ) (pieces : List Piece) (rest : List ℕ)
      → t.closed ≡ s.closed → t.fault ≡ s.fault → t.tokens ≡ s.tokens → t.place ≡ s.place → IsAt taken s fed pieces rest → IsAt taken t fed pieces rest
  at_too s t fed pieces rest closed fault tokens place h = record {
    closed = closed ∙ h.closed;
    fault = fault ∙ h.fault;
    ended = ap (λ (ts : List Token). taken ++ ts) tokens ∙ h.ended;
    ahead = h.ahead;
    place = ap (λ (n : ℕ). n + 1) place ∙ h.place;
  }

  pub at_rest : (s : State) (fed : List ℕ) (pieces : List Piece) (rest other : List ℕ) → rest ≡ other → IsAt taken s fed pieces rest → IsAt taken s fed pieces other
  at_rest s fed pieces rest other same = subst (IsAt taken s fed pieces) same

  -- where only the byte at hand stands behind the pieces, it stands at the lexer's place
  pub at_place : (s : State) (fed : List ℕ) (pieces : List Piece) (b : ℕ) → IsAt taken s fed pieces (b ∷ []) → s.place ≡ length_of pieces
  at_place s fed pieces b h = omega (arith, h.place, ahead_length fed (b ∷ []) pieces h.ahead)

  -- a blank or a comment ends
  pub at_gap : (s : State) (fed : List ℕ) (pieces : List Piece) (rest behind : List ℕ) (piece : Piece) → IsAt taken s fed pieces rest
      → ((at : ℕ) → placed at (piece ∷ []) ≡ []) → ((more : List ℕ) → BeginsWith (rest ++ more) piece (behind ++ more))
      → IsAt taken s fed (pieces ++ piece ∷ []) behind
  at_gap s fed pieces rest behind piece h gap first = record {
    closed = h.closed;
    fault = h.fault;
    ended =
        h.ended ∙ sym (append-nil (placed 0 pieces)) ∙ ap (λ (ts : List Token). placed 0 pieces ++ ts) (sym (gap (0 + length_of pieces)))
        ∙ sym (placed-append 0 pieces (piece ∷ []));
    ahead = ahead_piece fed rest behind pieces piece h.ahead first;
    place = h.place;
  }

  pub token_ended : (tokens : List Token) (kind : Kind) (bytes : List ℕ) (from : ℕ) (pieces : List Piece) → taken ++ tokens ≡ placed 0 pieces → from ≡ length_of pieces
      → taken ++ (tokens ++ record { kind = kind; place = from } ∷ []) ≡ placed 0 (pieces ++ Lexeme kind bytes ∷ [])
  token_ended tokens kind bytes from pieces ended begun =
      let here : ℕ → Token = λ n. record { kind = kind; place = n } in
      let same : from ≡ 0 + length_of pieces = omega arith in
      sym (append_assoc taken tokens (here from ∷ [])) ∙ ap (λ (ts : List Token). ts ++ here from ∷ []) ended
      ∙ ap (λ (n : ℕ). placed 0 pieces ++ here n ∷ []) same ∙ sym (placed-append 0 pieces (Lexeme kind bytes ∷ []))

  -- a token ends
  pub at_end : (s : State) (fed : List ℕ) (pieces : List Piece) (rest behind : List ℕ) (kind : Kind) (bytes : List ℕ) → IsAt taken s fed pieces rest
      → s.from ≡ length_of pieces → ((more : List ℕ) → BeginsWith (rest ++ more) (Lexeme kind bytes) (behind ++ more))
      → IsAt taken (end kind s) fed (pieces ++ Lexeme kind bytes ∷ []) behind
  at_end s fed pieces rest behind kind bytes h begun first = record {
    closed = h.closed;
    fault = h.fault;
    ended = token_ended s.tokens kind bytes s.from pieces h.ended begun;
    ahead = ahead_piece fed rest behind pieces (Lexeme kind bytes) h.ahead first;
    place = h.place;
  }

  -- ---- how a step ends

  pub goes_on : (mode : Mode) (s : State) (fed : List ℕ) (pieces : List Piece) (rest : List ℕ) → IsAt taken s fed pieces rest → s.mode ≡ mode
      → IsBegunAt mode s.from (length_of pieces) → IsUnfinished mode (count s) rest → IsOpen taken (count s) fed
  goes_on mode s fed pieces rest h is begun unfinished =
      let t : State = count s in
      let by_mode : (m : Mode) → Type 0 = λ m. IsCutAhead fed pieces rest × (t.place ≡ length fed) × IsBegunAt m t.from (length_of pieces) × IsUnfinished m t rest in
      let account : IsAccount false None t fed pieces rest = subst by_mode (sym is) (h.ahead, h.place, begun, unfinished) in
      record { closed = h.closed; lexing = lexing_from taken t fed pieces rest false None h.closed h.fault h.ended account }

  pub refuses : (s : State) (fed : List ℕ) (pieces : List Piece) (rest : List ℕ) → IsAt taken s fed pieces rest → s.from ≡ length_of pieces
      → ((more : List ℕ) → IsBad (rest ++ more)) → IsOpen taken (count (refuse s)) fed
  refuses s fed pieces rest h begun bad = record {
    closed = h.closed;
    lexing = lexing_from taken (count (refuse s)) fed pieces rest false (Some (BadByte s.from)) h.closed refl h.ended (h.ahead, begun, bad);
  }
