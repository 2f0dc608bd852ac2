-- What each call of a lexer tells, from what its state was and is.
use Rattle.std.proofs.Common.{◌≡◌, ◌⊎◌, ℕ, Bool, true, false, List, [], ◌∷◌, ◌++◌, refl, sym, ap, subst, ◌∙◌, inl, inr, append_assoc}
use Rattle.std.specs.Prelude.{Option, Some, None, Result, Ok, Err}
use Rattle.cd_lex.specs.declared.token.Token.{Token}
use Rattle.cd_lex.specs.declared.token.LexFault.{LexFault}
use Rattle.cd_lex.specs.declared.token.LexFault.TheVariants.{BadByte, Memory}
use Rattle.cd_lex.specs.declared.machine.Mode.{Mode}
use Rattle.cd_lex.specs.declared.machine.Mode.TheVariants.{Between, InComment, InWord, InLocal, InNode, InIri, InText, AfterBackslash, AfterCaret, AfterAt, InTag}
use Rattle.cd_lex.specs.Showing.{ShowsBad}
use Rattle.cd_lex.specs.Tokens.{Piece, AtBad}
use Rattle.cd_lex.specs.Machine.{State, start, run, closing, IsRun, IsPopped}
use Rattle.cd_lex.specs.Lexing.{IsUnfinished, IsAccount, IsLexing, answer_of, IsFed, IsClosed, IsTaken}
use Rattle.cd_lex.proofs.CutLaws.{items_exist}
use Rattle.cd_lex.proofs.MachineAhead.{IsOpen}
use Rattle.cd_lex.proofs.MachineLaws.{start_law, run_law, closing_law}
use Rattle.cd_lex.proofs.MachineShows.{shows_refused, none_shown, all_before_bad, all_before_end, are_first, none_first, are_all}

-- ---- feed

fed_by : (fault : Option LexFault) (s : State) (fed : List ℕ) (taken : List Token) → s.closed ≡ false → s.fault ≡ fault → IsLexing s fed taken
    → IsFed (answer_of fault) s fed taken
fed_by None s fed taken closed is h = (h, λ n. none_shown s fed taken n closed is h)
fed_by (Some (BadByte n)) s fed taken closed is h = (h, shows_refused s fed taken n closed is h)
fed_by (Some Memory) s fed taken closed is h = tt

pub begins_so : (s : State) → s ≡ start → IsLexing s [] []
begins_so s is = subst (λ (t : State). IsLexing t [] []) (sym is) start_law

pub feeds : (before after : State) (piece fed : List ℕ) (taken : List Token) → before.closed ≡ false → IsRun (run before piece) after → IsLexing before fed taken
    → IsFed (answer_of after.fault) after (fed ++ piece) taken
feeds before after piece fed taken closed (inr out) h = subst (λ (f : Option LexFault). IsFed (answer_of f) after (fed ++ piece) taken) (sym out) tt
feeds before after piece fed taken closed (inl is) h =
    let ran : IsOpen taken (run before piece) (fed ++ piece) = run_law taken piece before fed (record { closed = closed; lexing = h }) in
    let here : IsOpen taken after (fed ++ piece) = subst (λ (s : State). IsOpen taken s (fed ++ piece)) (sym is) ran in
    fed_by after.fault after (fed ++ piece) taken here.closed refl here.lexing

one_bad : (bytes : List ℕ) (m n : ℕ) → ShowsBad bytes m → ShowsBad bytes n → m ≡ n
one_bad bytes m n at_m at_n =
    let (tokens, ending, has) = items_exist (bytes ++ []) in
    let same : AtBad m ≡ AtBad n = sym (at_m [] tokens ending has) ∙ at_n [] tokens ending has in cc

-- where a bad byte is shown, the answer is this or that memory ran out
pub refuses_shown : (result : Result Unit LexFault) (s : State) (fed : List ℕ) (taken : List Token) (n : ℕ) → IsFed result s fed taken → ShowsBad fed n
    → (result ≡ Err (BadByte n)) ⊎ (result ≡ Err Memory)
refuses_shown (Ok done) s fed taken n (lexing, none) shows = absurd (none n shows)
refuses_shown (Err (BadByte m)) s fed taken n (lexing, bad) shows = inl (ap (λ (k : ℕ). Err (BadByte k)) (one_bad fed m n bad shows))
refuses_shown (Err Memory) s fed taken n h shows = inr refl

-- ---- close

closed_by : (fault : Option LexFault) (s : State) (fed : List ℕ) (taken : List Token) → s.closed ≡ true → s.fault ≡ fault → IsLexing s fed taken
    → IsClosed (answer_of fault) s fed taken
closed_by None s fed taken closed is h = (h, all_before_end s fed taken closed is h)
closed_by (Some (BadByte n)) s fed taken closed is h = (h, all_before_bad s fed taken n is h)
closed_by (Some Memory) s fed taken closed is h = tt

pub closes : (before after : State) (fed : List ℕ) (taken : List Token) → after.closed ≡ true → IsRun (closing before) after → IsLexing before fed taken
    → IsClosed (answer_of after.fault) after fed taken
closes before after fed taken closed (inr out) h = subst (λ (f : Option LexFault). IsClosed (answer_of f) after fed taken) (sym out) tt
closes before after fed taken closed (inl is) h =
    closed_by after.fault after fed taken closed refl (subst (λ (s : State). IsLexing s fed taken) (sym is) (closing_law taken before fed h))

-- ---- take_token

module _ (tokens : List Token) (s : State) where
  abbrev with : State
  with = record s { tokens = tokens }

  unfinished_too : (mode : Mode) (rest : List ℕ) → IsUnfinished mode with rest → IsUnfinished mode s rest
  unfinished_too Between rest h = h
  unfinished_too InComment rest h = h
  unfinished_too InWord rest h = h
  unfinished_too InLocal rest h = h
  unfinished_too InNode rest h = h
  unfinished_too InIri rest h = h
  unfinished_too InText rest h = h
  unfinished_too AfterBackslash rest h = h
  unfinished_too AfterCaret rest h = h
  unfinished_too AfterAt rest h = h
  unfinished_too InTag rest h = h

  account_too : (closed : Bool) (fault : Option LexFault) (fed : List ℕ) (pieces : List Piece) (rest : List ℕ) → IsAccount closed fault with fed pieces rest
      → IsAccount closed fault s fed pieces rest
  account_too false None fed pieces rest (ahead, place, from, unfinished) = (ahead, place, from, unfinished_too s.mode rest unfinished)
  account_too false (Some (BadByte n)) fed pieces rest h = h
  account_too false (Some Memory) fed pieces rest h = h
  account_too true None fed pieces rest h = h
  account_too true (Some (BadByte n)) fed pieces rest h = h
  account_too true (Some Memory) fed pieces rest h = h

pops : (s : State) (token : Token) (fed : List ℕ) (taken : List Token) → IsLexing (record s { tokens = token ∷ s.tokens }) fed taken
    → IsLexing s fed (taken ++ token ∷ [])
pops s token fed taken h = record {
  pieces = h.pieces;
  rest = h.rest;
  ended = append_assoc taken (token ∷ []) s.tokens ∙ h.ended;
  account = account_too (token ∷ s.tokens) s s.closed s.fault fed h.pieces h.rest h.account;
}

pub takes : (result : Option Token) (before after : State) (fed : List ℕ) (taken : List Token) → IsPopped result before after → IsLexing before fed taken
    → IsTaken result before after fed taken
takes (Some token) before after fed taken is h = (
  pops after token fed taken (subst (λ (s : State). IsLexing s fed taken) is h),
  are_first before fed taken after.tokens token (ap (λ (s : State). s.tokens) is) h,
)
takes None before after fed taken (same, none) h =
    (subst (λ (s : State). IsLexing s fed taken) (sym same) h, are_all before fed taken none h, λ token. none_first before fed taken token none h)
