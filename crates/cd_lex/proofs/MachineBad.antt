-- Fronts at which no piece begins: whatever follows, or where the text ends behind them.
use Rattle.std.proofs.Common.{◌≡◌, ◌≢◌, ◌⊎◌, ℕ, true, false, ◌||◌, ◌==◌, List, [], ◌∷◌, ◌++◌, refl, sym, ap, ◌∙◌, inl, inr, append_assoc, append-nil}
use Rattle.std.specs.Prelude.{None}
use Rattle.std.specs.List.{list_all}
use Rattle.std.proofs.lemmas.Bool.{or_parts}
use Rattle.cd_base.specs.Iri.{is_iri_byte}
use Rattle.cd_lex.specs.Tokens.{is_blank, is_letter, is_name_byte, is_lang_byte, escaped, begins, IsBad}
use Rattle.cd_lex.proofs.CutRuns.{front_while, rest_while, by_cases, chosen_true, chosen_false, while_append}
use Rattle.cd_lex.proofs.CutQuoted.{put, is_escaped, unescaped}
use Rattle.cd_lex.proofs.CutFirst.{first_piece, iri_piece, quoted_piece}
use Rattle.cd_lex.proofs.CutLaws.{bad_if_none}

not_none : (b : ℕ) (bytes : List ℕ) → b ∷ bytes ≢ []
not_none b bytes e = cc

bad : (b : ℕ) (more : List ℕ) → first_piece (b ∷ more) ≡ None → IsBad (b ∷ more)
bad b more none = bad_if_none (b ∷ more) (not_none b more) none

-- ---- a byte that begins nothing

pub record IsNoFirst (b : ℕ) : Type 0 where
  pub blank : is_blank b ≡ false
  pub name : is_name_byte b ≡ false
  pub hash : (b == 35) ≡ false
  pub opening : (b == 40) ≡ false
  pub closing : (b == 41) ≡ false
  pub equals : (b == 61) ≡ false
  pub caret : (b == 94) ≡ false
  pub less : (b == 60) ≡ false
  pub quote : (b == 34) ≡ false
  pub at : (b == 64) ≡ false

pub first_bad : (b : ℕ) (more : List ℕ) → IsNoFirst b → IsBad (b ∷ more)
first_bad b more h = bad b more
    (chosen_false (is_blank b) _ _ h.blank ∙ chosen_false (is_name_byte b) _ _ h.name ∙ chosen_false (b == 35) _ _ h.hash
    ∙ chosen_false (b == 40) _ _ h.opening ∙ chosen_false (b == 41) _ _ h.closing ∙ chosen_false (b == 61) _ _ h.equals
    ∙ chosen_false (b == 94) _ _ h.caret ∙ chosen_false (b == 60) _ _ h.less ∙ chosen_false (b == 34) _ _ h.quote
    ∙ chosen_false (b == 64) _ _ h.at)

-- ---- a full IRI

iri_pieces : (i behind bytes : List ℕ) → bytes ≡ i ++ behind → list_all is_iri_byte i ≡ true → begins is_iri_byte behind ≡ false
    → first_piece (60 ∷ bytes) ≡ iri_piece i behind
iri_pieces i behind bytes split all stops =
    let both = while_append is_iri_byte i behind all stops in
    ap (λ (xs : List ℕ). iri_piece (front_while is_iri_byte xs) (rest_while is_iri_byte xs)) split
    ∙ ap (λ (xs : List ℕ). iri_piece xs (rest_while is_iri_byte (i ++ behind))) both.0 ∙ ap (iri_piece i) both.1

no_iri : (i behind : List ℕ) (b : ℕ) → (i ≡ []) ⊎ ((b == 62) ≡ false) → iri_piece i (b ∷ behind) ≡ None
no_iri [] behind b h = refl
no_iri (c ∷ i) behind b (inl none) = absurd (not_none c i none)
no_iri (c ∷ i) behind b (inr other) = chosen_false (b == 62) _ _ other

pub iri_bad : (i : List ℕ) (b : ℕ) (more : List ℕ) → list_all is_iri_byte i ≡ true → is_iri_byte b ≡ false → (i ≡ []) ⊎ ((b == 62) ≡ false)
    → IsBad (60 ∷ (i ++ b ∷ []) ++ more)
iri_bad i b more all other h = bad 60 ((i ++ b ∷ []) ++ more)
    (iri_pieces i (b ∷ more) ((i ++ b ∷ []) ++ more) (append_assoc i (b ∷ []) more) all other ∙ no_iri i more b h)

iri_ends : (i : List ℕ) → iri_piece i [] ≡ None
iri_ends [] = refl
iri_ends (b ∷ i) = refl

pub iri_unended : (i : List ℕ) → list_all is_iri_byte i ≡ true → IsBad (60 ∷ i)
iri_unended i all = bad 60 i (iri_pieces i [] i (sym (append-nil i)) all refl ∙ iri_ends i)

-- ---- a string

escaped_none : (s rest : List ℕ) → unescaped false rest ≡ None → unescaped false (escaped s ++ rest) ≡ None
escaped_none [] rest h = h
escaped_none (b ∷ s) rest h =
    let more : List ℕ = escaped s ++ rest in
    by_cases (λ (xs : List ℕ). unescaped false (xs ++ rest) ≡ None) (is_escaped b) (92 ∷ b ∷ escaped s) (b ∷ escaped s)
    (λ is. chosen_true (is_escaped b) (put b (unescaped false more)) None is ∙ ap (put b) (escaped_none s rest h))
    (λ is.
    let both = or_parts (b == 34) (b == 92) is in
    chosen_false (b == 34) _ _ both.0 ∙ chosen_false (b == 92) _ _ both.1 ∙ ap (put b) (escaped_none s rest h))

string_bad : (s rest bytes : List ℕ) → bytes ≡ escaped s ++ rest → unescaped false rest ≡ None → IsBad (34 ∷ bytes)
string_bad s rest bytes split none = bad 34 bytes (ap (λ (xs : List ℕ). quoted_piece (unescaped false xs)) split ∙ ap quoted_piece (escaped_none s rest none))

pub escape_bad : (s : List ℕ) (b : ℕ) (more : List ℕ) → (b == 34 || b == 92) ≡ false → IsBad (34 ∷ ((escaped s ++ 92 ∷ []) ++ b ∷ []) ++ more)
escape_bad s b more other =
    string_bad s (92 ∷ b ∷ more) (((escaped s ++ 92 ∷ []) ++ b ∷ []) ++ more)
    (append_assoc (escaped s ++ 92 ∷ []) (b ∷ []) more ∙ append_assoc (escaped s) (92 ∷ []) (b ∷ more))
    (chosen_false (is_escaped b) (put b (unescaped false more)) None other)

pub string_unended : (s : List ℕ) → IsBad (34 ∷ escaped s)
string_unended s = string_bad s [] (escaped s) (sym (append-nil (escaped s))) refl

pub escape_unended : (s : List ℕ) → IsBad (34 ∷ escaped s ++ 92 ∷ [])
escape_unended s = string_bad s (92 ∷ []) (escaped s ++ 92 ∷ []) refl refl

-- ---- a single `^`

pub caret_bad : (b : ℕ) (more : List ℕ) → (b == 94) ≡ false → IsBad (94 ∷ b ∷ more)
caret_bad b more other = bad 94 (b ∷ more) (chosen_false (b == 94) _ _ other)

pub caret_unended : IsBad (94 ∷ [])
caret_unended = bad 94 [] refl

-- ---- a bare `@`

no_letter : (b : ℕ) (more : List ℕ) → is_letter b ≡ false → begins is_letter (front_while is_lang_byte (b ∷ more)) ≡ false
no_letter b more other =
    by_cases (λ (xs : List ℕ). begins is_letter xs ≡ false) (is_lang_byte b) (b ∷ front_while is_lang_byte more) [] (λ is. other) (λ is. refl)

pub at_bad : (b : ℕ) (more : List ℕ) → is_letter b ≡ false → IsBad (64 ∷ b ∷ more)
at_bad b more other = bad 64 (b ∷ more) (chosen_false (begins is_letter (front_while is_lang_byte (b ∷ more))) _ _ (no_letter b more other))

pub at_unended : IsBad (64 ∷ [])
at_unended = bad 64 [] refl
