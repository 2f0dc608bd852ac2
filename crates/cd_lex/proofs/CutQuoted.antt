-- The body of a string: undoing its escapes finds exactly what was escaped.
use Rattle.std.proofs.Common.{◌≡◌, ℕ, Bool, true, false, ◌||◌, ◌==◌, List, [], ◌∷◌, ◌++◌, refl, sym, ap, ◌∙◌, cond}
use Rattle.std.specs.Prelude.{Option, Some, None}
use Rattle.std.proofs.lemmas.Bool.{eqb-true}
use Rattle.cd_lex.specs.Tokens.{escaped}
use Rattle.cd_lex.proofs.CutRuns.{by_cases, chosen_true, chosen_false, neither}

abbrev pub is_escaped : ℕ → Bool
is_escaped b = b == 34 || b == 92

abbrev pub put : ℕ → Option (List ℕ × List ℕ) → Option (List ℕ × List ℕ)
put b None = None
put b (Some (s, rest)) = Some (b ∷ s, rest)

-- the text up to its first quote with its escapes undone, and what follows the quote; `after` says that a `\` stands before the text
abbrev pub unescaped : Bool → List ℕ → Option (List ℕ × List ℕ)
unescaped after [] = None
unescaped true (b ∷ more) = cond (is_escaped b) (put b (unescaped false more)) None
unescaped false (b ∷ more) = cond (b == 34) (Some ([], more)) (cond (b == 92) (unescaped true more) (put b (unescaped false more)))

abbrev pub whole : Bool → List ℕ → List ℕ
whole true bytes = 92 ∷ bytes
whole false bytes = bytes

abbrev pub Undoes : List ℕ → Option (List ℕ × List ℕ) → Type 0
Undoes bytes None = Unit {0}
Undoes bytes (Some (s, rest)) = bytes ≡ escaped s ++ 34 ∷ rest

escape_put : (b : ℕ) (more : List ℕ) (found : Option (List ℕ × List ℕ)) → is_escaped b ≡ true → Undoes more found → Undoes (92 ∷ b ∷ more) (put b found)
escape_put b more None is h = tt
escape_put b more (Some (s, rest)) is h =
    ap (λ (xs : List ℕ). 92 ∷ b ∷ xs) h ∙ sym (ap (λ (xs : List ℕ). xs ++ 34 ∷ rest) (chosen_true (is_escaped b) (92 ∷ b ∷ escaped s) (b ∷ escaped s) is))

plain_put : (b : ℕ) (more : List ℕ) (found : Option (List ℕ × List ℕ)) → is_escaped b ≡ false → Undoes more found → Undoes (b ∷ more) (put b found)
plain_put b more None is h = tt
plain_put b more (Some (s, rest)) is h =
    ap (λ (xs : List ℕ). b ∷ xs) h ∙ sym (ap (λ (xs : List ℕ). xs ++ 34 ∷ rest) (chosen_false (is_escaped b) (92 ∷ b ∷ escaped s) (b ∷ escaped s) is))

same_first : (b c : ℕ) (more : List ℕ) → (b == c) ≡ true → c ∷ more ≡ b ∷ more
same_first b c more same = ap (λ (x : ℕ). x ∷ more) (sym (eqb-true b c same))

undone_from : (x y : List ℕ) (found : Option (List ℕ × List ℕ)) → y ≡ x → Undoes x found → Undoes y found
undone_from x y None e h = tt
undone_from x y (Some (s, rest)) e h = e ∙ h

-- what is found was escaped
pub unescaped_found : (after : Bool) (bytes : List ℕ) → Undoes (whole after bytes) (unescaped after bytes)
unescaped_found after [] = tt
unescaped_found true (b ∷ more) =
    by_cases (Undoes (92 ∷ b ∷ more)) (is_escaped b) (put b (unescaped false more)) None
    (λ is. escape_put b more (unescaped false more) is (unescaped_found false more)) (λ is. tt)
unescaped_found false (b ∷ more) =
    by_cases (Undoes (b ∷ more)) (b == 34) (Some ([], more)) (cond (b == 92) (unescaped true more) (put b (unescaped false more)))
    (λ quote. sym (same_first b 34 more quote))
    (λ other.
    by_cases (Undoes (b ∷ more)) (b == 92) (unescaped true more) (put b (unescaped false more))
    (λ slash. undone_from (92 ∷ more) (b ∷ more) (unescaped true more) (sym (same_first b 92 more slash)) (unescaped_found true more))
    (λ plain. plain_put b more (unescaped false more) (neither (b == 34) (b == 92) other plain) (unescaped_found false more)))

either_false : (a b : Bool) → (a || b) ≡ false → (a ≡ false) × (b ≡ false)
either_false true b h = cc
either_false false b h = (refl, h)

-- what was escaped is found
pub unescaped_only : (s rest : List ℕ) → unescaped false (escaped s ++ 34 ∷ rest) ≡ Some (s, rest)
unescaped_only [] rest = refl
unescaped_only (b ∷ s) rest =
    let more : List ℕ = escaped s ++ 34 ∷ rest in
    by_cases (λ (xs : List ℕ). unescaped false (xs ++ 34 ∷ rest) ≡ Some (b ∷ s, rest)) (is_escaped b) (92 ∷ b ∷ escaped s) (b ∷ escaped s)
    (λ is. chosen_true (is_escaped b) (put b (unescaped false more)) None is ∙ ap (put b) (unescaped_only s rest))
    (λ is.
    let both = either_false (b == 34) (b == 92) is in
    chosen_false (b == 34) _ _ both.0 ∙ chosen_false (b == 92) _ _ both.1 ∙ ap (put b) (unescaped_only s rest))
