-- The first operand of each tree, found by codes.
use Rattle.std.proofs.Common.{◌≡◌, ◌⊎◌, ℕ, ◌+◌, ◌<◌, Bool, true, false, cond, ◌||◌, List, [], ◌∷◌, ◌++◌, map, length, get_or, take, refl, sym, ap, subst, ◌∙◌, inl, inr}
use Rattle.std.specs.List.{list_any}
use Rattle.std.specs.Str.{bytes_eq}
use Rattle.std.specs.Cmp.Lexicographic.{bytes_decides}
use Rattle.std.proofs.lemmas.List.{take_more, get_or_read, map_push}
use Rattle.std.proofs.lemmas.List.Folds.{list_any-append}
use Rattle.std.proofs.lemmas.Bool.{false≢true}
use Rattle.std.proofs.Math.Bool.{or-false, or_comm}
use Rattle.cd_base.specs.Lists.{OneOf}
use Rattle.cd_meaning.specs.declared.expression.Expr.{Expr}
use Rattle.cd_meaning.specs.declared.expression.Expr.TheVariants.{Name}
use Rattle.cd_normal.specs.Codes.{code}
use Rattle.cd_normal.specs.NormalForm.{Kept}
use Rattle.cd_normal.specs.Operands.{operand}
use Rattle.cd_normal.proofs.Tests.{any_by_member, any_member}
use Rattle.cd_normal.proofs.ToldApart.{told_apart}

-- one more that came before
kept_old : (seen l kept : List Expr) (e : Expr) → Kept seen l kept → OneOf e l ⊎ OneOf e seen → Kept seen (l ++ e ∷ []) kept
kept_old seen [] kept e k (inl m) = absurd m
kept_old seen [] kept e k (inr m) = inl (m, k)
kept_old seen (d ∷ l) kept e (inl k) (inl (inl is)) = inl (k.0, kept_old seen l kept e k.1 (inr (subst (λ x. OneOf x seen) (sym is) k.0)))
kept_old seen (d ∷ l) kept e (inl k) (inl (inr m)) = inl (k.0, kept_old seen l kept e k.1 (inl m))
kept_old seen (d ∷ l) kept e (inl k) (inr m) = inl (k.0, kept_old seen l kept e k.1 (inr m))
kept_old seen (d ∷ l) kept e (inr k) (inl (inl is)) = inr (k.0, (k.1.0, k.1.1, kept_old (d ∷ seen) l k.1.0 e k.1.2 (inr (inl is))))
kept_old seen (d ∷ l) kept e (inr k) (inl (inr m)) = inr (k.0, (k.1.0, k.1.1, kept_old (d ∷ seen) l k.1.0 e k.1.2 (inl m)))
kept_old seen (d ∷ l) kept e (inr k) (inr m) = inr (k.0, (k.1.0, k.1.1, kept_old (d ∷ seen) l k.1.0 e k.1.2 (inr (inr m))))

-- one more that is new
kept_new : (seen l kept : List Expr) (e : Expr) → Kept seen l kept → (OneOf e l → ⊥) → (OneOf e seen → ⊥) → Kept seen (l ++ e ∷ []) (kept ++ e ∷ [])
kept_new seen [] kept e k n m = inr (m, ([], ap (λ t. t ++ e ∷ []) k, refl))
kept_new seen (d ∷ l) kept e (inl k) n m = inl (k.0, kept_new seen l kept e k.1 (λ o. n (inr o)) m)
kept_new seen (d ∷ l) kept e (inr k) n m = inr (k.0, (k.1.0 ++ e ∷ [], ap (λ t. t ++ e ∷ []) k.1.1, kept_new (d ∷ seen) l k.1.0 e k.1.2 (λ o. n (inr o)) (λ o. elim o [ inl is ↦ n (inl is) | inr s ↦ m s ])))

-- ---- by codes

-- whether an operand of the list has this code
abbrev pub is_coded : List Expr → List ℕ → Bool
is_coded l c = list_any (λ e. bytes_eq (code e) c) l

coded_member : (l : List Expr) (e : Expr) → is_coded l (code e) ≡ true → OneOf e l
coded_member l e h =
    let w = any_member (λ d. bytes_eq (code d) (code e)) l h in
    subst (λ d. OneOf d l) (told_apart w.0 e ((bytes_decides (code w.0) (code e)).0 w.2)) w.1

member_coded : (l : List Expr) (e : Expr) → OneOf e l → is_coded l (code e) ≡ true
member_coded l e m = any_by_member (λ d. bytes_eq (code d) (code e)) l e m ((bytes_decides (code e) (code e)).1 refl)

-- the operand at i goes the list's way
module _ (l : List Expr) (i : ℕ) (e : Expr) (within : i < length l) (at : e ≡ get_or l i e) where
  longer : take (i + 1) l ≡ take i l ++ e ∷ []
  longer = take_more l i e within ∙ ap (λ (d : Expr). take i l ++ d ∷ []) (sym at)

  pub kept_more : (places places' : List ℕ) → places' ≡ places ++ i ∷ [] → is_coded (take i l) (code e) ≡ false → Kept [] (take i l) (map (operand l) places) → Kept [] (take (i + 1) l) (map (operand l) places')
  kept_more places places' is new k =
      let here : operand l i ≡ e = sym (get_or_read l i e within at (Name 0)) in
      let all : map (operand l) places' ≡ map (operand l) places ++ e ∷ []
      = ap (map (operand l)) is ∙ map_push (operand l) places i ∙ ap (λ d. map (operand l) places ++ d ∷ []) here in
      subst (λ t. Kept [] t (map (operand l) places')) (sym longer)
      (subst (Kept [] (take i l ++ e ∷ [])) (sym all)
      (kept_new [] (take i l) (map (operand l) places) e k (λ m. false≢true (sym new ∙ member_coded (take i l) e m)) (λ z. z)))

  pub kept_same : (places places' : List ℕ) → places' ≡ places → is_coded (take i l) (code e) ≡ true → Kept [] (take i l) (map (operand l) places) → Kept [] (take (i + 1) l) (map (operand l) places')
  kept_same places places' is old k =
      subst (λ t. Kept [] t (map (operand l) places')) (sym longer)
      (subst (λ p. Kept [] (take i l ++ e ∷ []) (map (operand l) p)) (sym is)
      (kept_old [] (take i l) (map (operand l) places) e k (inl (coded_member (take i l) e old))))

  pub coded_more : (c : List ℕ) → is_coded (take (i + 1) l) c ≡ (bytes_eq (code e) c || is_coded (take i l) c)
  coded_more c =
      ap (λ t. is_coded t c) longer ∙ list_any-append (λ d. bytes_eq (code d) c) (take i l) (e ∷ [])
      ∙ ap (λ b. is_coded (take i l) c || b) (or-false (bytes_eq (code e) c)) ∙ or_comm (is_coded (take i l) c) (bytes_eq (code e) c)

-- what an insertion says of a code
pub true_first : (a b : Bool) → cond a true b ≡ (a || b)
true_first true b = refl
true_first false b = refl
