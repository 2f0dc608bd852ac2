-- The code of an expression by its form, and that different trees have different codes.
use Rattle.std.proofs.Common.{◌≡◌, ℕ, zero, suc, List, [], ◌∷◌, ◌++◌, refl, sym, ap, ap₂, subst, ◌∙◌, append_assoc}
use Rattle.std.proofs.lemmas.List.{append_cancel_left}
use Rattle.std.proofs.lemmas.List.Folds.{flat_map-map}
use Rattle.std.specs.List.{flat_map}
use Rattle.cd_meaning.specs.declared.expression.Expr.{Expr}
use Rattle.cd_meaning.specs.declared.expression.Expr.TheVariants.{Name, Meet, Join, Minus, SomeOf, AllOf, rolls-Name, rolls-Meet, rolls-Join, rolls-Minus, rolls-SomeOf, rolls-AllOf}
use Rattle.cd_meaning.specs.declared.expression.Expr.TheOpen.{Expr-F}
use Rattle.cd_meaning.specs.declared.expression.Expr.TheViews.{roll-Expr}
use Rattle.cd_meaning.specs.declared.expression.Expr.TheFolds.{fold-roll-Expr, map-Expr}
use Rattle.std.specs.List.{AllByRecursion}
use Rattle.cd_meaning.specs.Induction.{induct}
use Rattle.cd_normal.specs.Codes.{code, code_by_parts}

code-roll : (e : Expr) (layer : Expr-F Expr) → roll-Expr layer ≡ e → code e ≡ code_by_parts (map-Expr Expr (List ℕ) code layer)
code-roll e layer rolls = ap code (sym rolls) ∙ fold-roll-Expr (List ℕ) code_by_parts layer

code-Name : (c : ℕ) → code (Name c) ≡ 0 ∷ c ∷ []
code-Name c = code-roll (Name c) (Expr-F.Name c) (rolls-Name c)

pub code-Meet : (parts : List Expr) → code (Meet parts) ≡ 1 ∷ (flat_map code parts ++ 6 ∷ [])
code-Meet parts = code-roll (Meet parts) (Expr-F.Meet parts) (rolls-Meet parts) ∙ ap (λ l. 1 ∷ (l ++ 6 ∷ [])) (flat_map-map (λ part. part) code parts)

pub code-Join : (parts : List Expr) → code (Join parts) ≡ 2 ∷ (flat_map code parts ++ 6 ∷ [])
code-Join parts = code-roll (Join parts) (Expr-F.Join parts) (rolls-Join parts) ∙ ap (λ l. 2 ∷ (l ++ 6 ∷ [])) (flat_map-map (λ part. part) code parts)

pub code-Minus : (part : Expr) → code (Minus part) ≡ 3 ∷ code part
code-Minus part = code-roll (Minus part) (Expr-F.Minus part) (rolls-Minus part)

pub code-SomeOf : (r : ℕ) (part : Expr) → code (SomeOf r part) ≡ 4 ∷ r ∷ code part
code-SomeOf r part = code-roll (SomeOf r part) (Expr-F.SomeOf r part) (rolls-SomeOf r part)

pub code-AllOf : (r : ℕ) (part : Expr) → code (AllOf r part) ≡ 5 ∷ r ∷ code part
code-AllOf r part = code-roll (AllOf r part) (Expr-F.AllOf r part) (rolls-AllOf r part)

-- ---- a code and what stands after it can be told apart

abbrev Reads : Expr → Type 0
Reads e = (d : Expr) (rest rest' : List ℕ) → code e ++ rest ≡ code d ++ rest' → (e ≡ d) × (rest ≡ rest')

-- what the first number says
abbrev pub Formed : ℕ → Expr → Type 0
Formed zero d = (c : ℕ) × (d ≡ Name c)
Formed (suc zero) d = (parts : List Expr) × (d ≡ Meet parts)
Formed (suc (suc zero)) d = (parts : List Expr) × (d ≡ Join parts)
Formed (suc (suc (suc zero))) d = (part : Expr) × (d ≡ Minus part)
Formed (suc (suc (suc (suc zero)))) d = (r : ℕ) × (part : Expr) × (d ≡ SomeOf r part)
Formed (suc (suc (suc (suc (suc zero))))) d = (r : ℕ) × (part : Expr) × (d ≡ AllOf r part)
Formed (suc (suc (suc (suc (suc (suc more)))))) d = ⊥

-- a code begins with the number of its form
starts : (e : Expr) → (form : ℕ) × (more : List ℕ) × (code e ≡ form ∷ more) × Formed form e
starts = induct (λ e. (form : ℕ) × (more : List ℕ) × (code e ≡ form ∷ more) × Formed form e)
    (λ c. (0, c ∷ [], code-Name c, (c, refl)))
    (λ parts h. (1, flat_map code parts ++ 6 ∷ [], code-Meet parts, (parts, refl)))
    (λ parts h. (2, flat_map code parts ++ 6 ∷ [], code-Join parts, (parts, refl)))
    (λ part h. (3, code part, code-Minus part, (part, refl)))
    (λ r part h. (4, r ∷ code part, code-SomeOf r part, (r, part, refl)))
    (λ r part h. (5, r ∷ code part, code-AllOf r part, (r, part, refl)))

-- so the form of another expression whose code begins alike is the same
form_of : (form : ℕ) (more : List ℕ) (d : Expr) (rest' : List ℕ) → form ∷ more ≡ code d ++ rest' → Formed form d
form_of form more d rest' h =
    let s = starts d in
    let e : form ≡ s.0 = cc (h ∙ ap (λ l. l ++ rest') s.2) in
    subst (λ n. Formed n d) (sym e) s.3

-- a list of parts and its end
reads_each : (parts : List Expr) → AllByRecursion Reads parts → (others : List Expr) (rest rest' : List ℕ) → flat_map code parts ++ 6 ∷ rest ≡ flat_map code others ++ 6 ∷ rest' → (parts ≡ others) × (rest ≡ rest')
reads_each [] h [] rest rest' e = (refl, cc)
reads_each [] h (d ∷ others) rest rest' e = absurd (form_of 6 rest d (flat_map code others ++ 6 ∷ rest') (e ∙ append_assoc (code d) (flat_map code others) (6 ∷ rest')))
reads_each (p ∷ parts) h [] rest rest' e = absurd (form_of 6 rest' p (flat_map code parts ++ 6 ∷ rest) (sym e ∙ append_assoc (code p) (flat_map code parts) (6 ∷ rest)))
reads_each (p ∷ parts) h (d ∷ others) rest rest' e =
    let here = h.0 d (flat_map code parts ++ 6 ∷ rest) (flat_map code others ++ 6 ∷ rest')
    (sym (append_assoc (code p) (flat_map code parts) (6 ∷ rest)) ∙ e ∙ append_assoc (code d) (flat_map code others) (6 ∷ rest')) in
    let there = reads_each parts h.1 others rest rest' here.1 in
    (ap₂ (λ (x : Expr) (l : List Expr). x ∷ l) here.0 there.0, there.1)

reads_list : (P : List Expr → Expr) (form : ℕ) (parts others : List Expr) (rest rest' : List ℕ) → AllByRecursion Reads parts
    → code (P parts) ≡ form ∷ (flat_map code parts ++ 6 ∷ []) → code (P others) ≡ form ∷ (flat_map code others ++ 6 ∷ [])
    → code (P parts) ++ rest ≡ code (P others) ++ rest' → (P parts ≡ P others) × (rest ≡ rest')
reads_list P form parts others rest rest' h is is' e =
    let both : form ∷ ((flat_map code parts ++ 6 ∷ []) ++ rest) ≡ form ∷ ((flat_map code others ++ 6 ∷ []) ++ rest')
    = sym (ap (λ l. l ++ rest) is) ∙ e ∙ ap (λ l. l ++ rest') is' in
    let inner : (flat_map code parts ++ 6 ∷ []) ++ rest ≡ (flat_map code others ++ 6 ∷ []) ++ rest' = cc in
    let r = reads_each parts h others rest rest'
    (sym (append_assoc (flat_map code parts) (6 ∷ []) rest) ∙ inner ∙ append_assoc (flat_map code others) (6 ∷ []) rest') in
    (ap P r.0, r.1)

reads_part : (P : Expr → Expr) (before : List ℕ) (part other : Expr) (rest rest' : List ℕ) → Reads part
    → code (P part) ≡ before ++ code part → code (P other) ≡ before ++ code other
    → code (P part) ++ rest ≡ code (P other) ++ rest' → (P part ≡ P other) × (rest ≡ rest')
reads_part P before part other rest rest' h is is' e =
    let both : before ++ (code part ++ rest) ≡ before ++ (code other ++ rest')
    = sym (append_assoc before (code part) rest) ∙ sym (ap (λ l. l ++ rest) is) ∙ e ∙ ap (λ l. l ++ rest') is' ∙ append_assoc before (code other) rest' in
    let r = h other rest rest' (append_cancel_left before (code part ++ rest) (code other ++ rest') both) in
    (ap P r.0, r.1)

-- the form is the first number's
same_form : (form : ℕ) (e d : Expr) (more rest rest' : List ℕ) → code e ≡ form ∷ more → code e ++ rest ≡ code d ++ rest' → Formed form d
same_form form e d more rest rest' is h = form_of form (more ++ rest) d rest' (sym (ap (λ l. l ++ rest) is) ∙ h)

role_of : (P : ℕ → Expr → Expr) (form r s : ℕ) (part other : Expr) (rest rest' : List ℕ)
    → code (P r part) ≡ form ∷ r ∷ code part → code (P s other) ≡ form ∷ s ∷ code other
    → code (P r part) ++ rest ≡ code (P s other) ++ rest' → r ≡ s
role_of P form r s part other rest rest' is is' e =
    let both : form ∷ r ∷ (code part ++ rest) ≡ form ∷ s ∷ (code other ++ rest') = sym (ap (λ l. l ++ rest) is) ∙ e ∙ ap (λ l. l ++ rest') is' in
    cc

reads : (e : Expr) → Reads e
reads = induct Reads
    (λ c d rest rest' h.
    let f = same_form 0 (Name c) d (c ∷ []) rest rest' (code-Name c) h in
    let both : 0 ∷ c ∷ rest ≡ 0 ∷ f.0 ∷ rest' = sym (ap (λ l. l ++ rest) (code-Name c)) ∙ h ∙ ap (λ l. l ++ rest') (ap code f.1 ∙ code-Name f.0) in
    let one : c ≡ f.0 = cc in
    (ap (λ n. Name n) one ∙ sym f.1, cc))
    (λ parts each d rest rest' h.
    let f = same_form 1 (Meet parts) d (flat_map code parts ++ 6 ∷ []) rest rest' (code-Meet parts) h in
    let r = reads_list (λ l. Meet l) 1 parts f.0 rest rest' each (code-Meet parts) (code-Meet f.0) (h ∙ ap (λ x. code x ++ rest') f.1) in
    (r.0 ∙ sym f.1, r.1))
    (λ parts each d rest rest' h.
    let f = same_form 2 (Join parts) d (flat_map code parts ++ 6 ∷ []) rest rest' (code-Join parts) h in
    let r = reads_list (λ l. Join l) 2 parts f.0 rest rest' each (code-Join parts) (code-Join f.0) (h ∙ ap (λ x. code x ++ rest') f.1) in
    (r.0 ∙ sym f.1, r.1))
    (λ part here d rest rest' h.
    let f = same_form 3 (Minus part) d (code part) rest rest' (code-Minus part) h in
    let r = reads_part (λ x. Minus x) (3 ∷ []) part f.0 rest rest' here (code-Minus part) (code-Minus f.0) (h ∙ ap (λ x. code x ++ rest') f.1) in
    (r.0 ∙ sym f.1, r.1))
    (λ role part here d rest rest' h.
    let f = same_form 4 (SomeOf role part) d (role ∷ code part) rest rest' (code-SomeOf role part) h in
    let e = h ∙ ap (λ x. code x ++ rest') f.2 in
    let one = role_of (λ n x. SomeOf n x) 4 role f.0 part f.1 rest rest' (code-SomeOf role part) (code-SomeOf f.0 f.1) e in
    let r = reads_part (λ x. SomeOf role x) (4 ∷ role ∷ []) part f.1 rest rest' here (code-SomeOf role part) (code-SomeOf role f.1) (e ∙ ap (λ n. code (SomeOf n f.1) ++ rest') (sym one)) in
    (r.0 ∙ ap (λ n. SomeOf n f.1) one ∙ sym f.2, r.1))
    (λ role part here d rest rest' h.
    let f = same_form 5 (AllOf role part) d (role ∷ code part) rest rest' (code-AllOf role part) h in
    let e = h ∙ ap (λ x. code x ++ rest') f.2 in
    let one = role_of (λ n x. AllOf n x) 5 role f.0 part f.1 rest rest' (code-AllOf role part) (code-AllOf f.0 f.1) e in
    let r = reads_part (λ x. AllOf role x) (5 ∷ role ∷ []) part f.1 rest rest' here (code-AllOf role part) (code-AllOf role f.1) (e ∙ ap (λ n. code (AllOf n f.1) ++ rest') (sym one)) in
    (r.0 ∙ ap (λ n. AllOf n f.1) one ∙ sym f.2, r.1))

-- expressions of one code are one tree
pub told_apart : (e d : Expr) → code e ≡ code d → e ≡ d
told_apart e d h = (reads e d [] [] (ap (λ l. l ++ []) h)).0
