-- What one step of the making owes.
use Rattle.std.proofs.Common.{◌≡◌, ◌⊎◌, ℕ, zero, suc, ◌+◌, ◌<◌, Bool, true, false, not, cond, List, [], ◌∷◌, ◌++◌, map, length, get_or, take, refl, sym, ap, subst, ◌∙◌, inl, inr, arith}
use Rattle.cd_meaning.specs.declared.expression.Expr.{Expr}
use Rattle.cd_meaning.specs.declared.expression.Expr.TheVariants.{Name, Meet, Join, Minus, SomeOf, AllOf}
use Rattle.cd_nnf.specs.Nnf.{nnf, nnf_not}
use Rattle.cd_nnf.specs.NnfTable.{nnf-Name, nnf-Minus, nnf-SomeOf, nnf-Meet, nnf-Join, nnf_not-Meet, nnf_not-Join, nnf_not-Name, nnf_not-Minus, nnf_not-AllOf}
use Rattle.cd_normal.specs.declared.maker.Maker.{Maker}
use Rattle.cd_meaning.specs.NormalAxioms.{NormalAxiom, n4, implies, triple}
use Rattle.cd_normal.specs.Represents.{Label, use_of, rest_of, chain_of, Represents, RepresentsEach, by_name, pos_minus, pos_meet, pos_join, pos_some, pos_all, neg_minus, neg_meet, neg_join, neg_some, neg_all, at_end, and_then}
use Rattle.cd_normal.specs.NormalForm.{IsFresh}
use Rattle.cd_normal.specs.Made.{IsPaired, Adds, Closes, form, IsUse, IsUseEach, minus_rows, some_rows, list_rows, link_rows, ClosesTwo, rest_rows}
use Rattle.cd_nnf.proofs.Complements.{twice}
use Rattle.std.proofs.lemmas.Bool.{cases_lt}
use Rattle.std.proofs.lemmas.List.{take_more}
use Rattle.cd_normal.proofs.Tests.{member_left, member_right, member_cases}
use Rattle.cd_normal.proofs.Mentions.{mentioned_both, mentioned_then, mentioned_none, mentioned_one, mentioned_rest, covers_some, covers_list, covers_all, covers_rest}

module _ (classes : ℕ) (F G : ℕ → Label → Type 0) (up : (a : ℕ) (k : Label) → F a k → G a k) where
  mutual
    pub more : {sign : Bool} {e : Expr} {a : ℕ} {axs : List NormalAxiom} → Represents classes F sign e a axs → Represents classes G sign e a axs
    more {sign} {e} {a} {axs} (by_name below is gives) = by_name below is gives
    more {sign} {e} {a} {axs} (pos_minus c below is fresh gives) = pos_minus c below is (up a (use_of true e) fresh) gives
    more {sign} {e} {a} {axs} (pos_meet parts ys rest is fresh u gives) = pos_meet parts ys rest is (up a (use_of true e) fresh) (more_each u) gives
    more {sign} {e} {a} {axs} (pos_join parts ys rest is fresh u gives) = pos_join parts ys rest is (up a (use_of true e) fresh) (more_each u) gives
    more {sign} {e} {a} {axs} (pos_some r part y rest is fresh u gives) = pos_some r part y rest is (up a (use_of true e) fresh) (more u) gives
    more {sign} {e} {a} {axs} (pos_all r part y rest is fresh u gives) = pos_all r part y rest is (up a (use_of true e) fresh) (more u) gives
    more {sign} {e} {a} {axs} (neg_minus c below is fresh gives) = neg_minus c below is (up a (use_of false e) fresh) gives
    more {sign} {e} {a} {axs} (neg_meet parts ys rest is fresh u gives) = neg_meet parts ys rest is (up a (use_of false e) fresh) (more_each u) gives
    more {sign} {e} {a} {axs} (neg_join parts ys rest is fresh u gives) = neg_join parts ys rest is (up a (use_of false e) fresh) (more_each u) gives
    more {sign} {e} {a} {axs} (neg_some r part y rest is fresh u gives) = neg_some r part y rest is (up a (use_of false e) fresh) (more u) gives
    more {sign} {e} {a} {axs} (neg_all r part y z rest is fresh other u gives) = neg_all r part y z rest is (up a (use_of false e) fresh) (up y (rest_of a e) other) (more u) gives

    pub more_each : {sign : Bool} {es : List Expr} {xs : List ℕ} {axs : List NormalAxiom} → RepresentsEach classes F sign es xs axs → RepresentsEach classes G sign es xs axs
    more_each at_end = at_end
    more_each (and_then here rest u v) = and_then here rest (more u) (more_each v)

pub get_left : {X : Type 0} (l m : List X) (n : ℕ) (d : X) → n < length l → get_or (l ++ m) n d ≡ get_or l n d
get_left [] m n d h = absurd (omega arith)
get_left (x ∷ l) m zero d h = refl
get_left (x ∷ l) m (suc n) d h = get_left l m n d (omega arith)

pub get_end : {X : Type 0} (l : List X) (x d : X) → get_or (l ++ x ∷ []) (length l) d ≡ x
get_end [] x d = refl
get_end (y ∷ l) x d = get_end l x d

length_end : {X : Type 0} (l : List X) (x : X) → length (l ++ x ∷ []) ≡ length l + 1
length_end [] x = refl
length_end (y ∷ l) x = let h = length_end l x in omega (arith, h)

pub fresh_more : (classes : ℕ) (l : List Label) (k : Label) (a : ℕ) (kind : Label) → IsFresh classes l a kind → IsFresh classes (l ++ k ∷ []) a kind
fresh_more classes l k a kind (n, is, below, at) = let e = length_end l k in (n, is, omega (arith, below, e), λ d. get_left l (k ∷ []) n d below ∙ at d)

pub fresh_end : (classes : ℕ) (l : List Label) (k : Label) (x : ℕ) → x ≡ classes + length l → IsFresh classes (l ++ k ∷ []) x k
fresh_end classes l k x is = let e = length_end l k in (length l, is, omega (arith, e), λ d. get_end l k d)

pub adds_both : (old mid new : Maker) (axs bs : List NormalAxiom) → Adds old mid axs → Adds mid new bs → Adds old new (bs ++ axs)
adds_both old mid new axs bs f g a = (
  λ h. elim ((g a).0 h) [ inl m ↦ elim ((f a).0 m) [ inl o ↦ inl o | inr k ↦ inr (member_right a bs axs k) ] | inr k ↦ inr (member_left a bs axs k) ],
  λ w. elim w [
    | inl o ↦ (g a).1 (inl ((f a).1 (inl o)))
    | inr k ↦ elim (member_cases a bs axs k) [ inl p ↦ (g a).1 (inr p) | inr q ↦ (g a).1 (inl ((f a).1 (inr q))) ]
  ],
)

fresh_cases : (classes : ℕ) (l : List Label) (k : Label) (a : ℕ) (kind : Label) → IsFresh classes (l ++ k ∷ []) a kind → IsFresh classes l a kind ⊎ ((a ≡ classes + length l) × (k ≡ kind))
fresh_cases classes l k a kind (n, is, below, at) =
    let e = length_end l k in
    elim (cases_lt n (length l)) [
      | inl lt ↦ inl (n, is, lt, λ d. sym (get_left l (k ∷ []) n d lt) ∙ at d)
      | inr most ↦ (let same : n ≡ length l = omega (arith, below, e, most) in inr (is ∙ ap (λ m. classes + m) same, sym (get_end l k k) ∙ ap (λ m. get_or (l ++ k ∷ []) m k) (sym same) ∙ at k))
    ]

abbrev made_for : Label → ℕ
made_for (use_of sign e) = 0
made_for (rest_of x e) = x
made_for (chain_of k es) = 0

-- a label that is not of a second atom
pub paired_more : (classes : ℕ) (l : List Label) (k : Label) → ((x : ℕ) (e : Expr) → k ≡ rest_of x e → ⊥) → IsPaired classes l → IsPaired classes (l ++ k ∷ [])
paired_more classes l k other p a x e f = elim (fresh_cases classes l k a (rest_of x e) f) [ inl g ↦ p a x e g | inr w ↦ absurd (other x e w.1) ]

pub paired_rest : (classes : ℕ) (l : List Label) (y : ℕ) (d : Expr) → classes + length l ≡ y + 1 → IsPaired classes l → IsPaired classes (l ++ rest_of y d ∷ [])
paired_rest classes l y d is p a x e f = elim (fresh_cases classes l (rest_of y d) a (rest_of x e) f) [
  | inl g ↦ p a x e g
  | inr w ↦ w.0 ∙ is ∙ ap (λ k. made_for k + 1) w.1
]

not_rest : (sign : Bool) (d : Expr) (x : ℕ) (e : Expr) → use_of sign d ≡ rest_of x e → ⊥
not_rest sign d x e is = cc

pub adds_none : (m : Maker) → Adds m m []
adds_none m a = (λ h. inl h, λ w. elim w [ inl h ↦ h | inr z ↦ absurd z ])

module _ (classes : ℕ) where
  made_name : (m : Maker) (sign : Bool) (e : Expr) (c : ℕ) → c < classes → e ≡ Name c → IsUse classes m m sign e c
  made_name m sign e c below is = λ labels count. record {
    after = labels;
    grows = λ a k f. f;
    count = count;
    axs = [];
    uses = by_name below is refl;
    adds = adds_none m;
    paired = λ p. p;
    mentioned = mentioned_none m m (c ∷ []) [] (omega arith);
  }

  minus_uses : (sign : Bool) (F : ℕ → Label → Type 0) (e : Expr) (c x : ℕ) → c < classes → e ≡ Minus (Name c) → F x (use_of sign e) → Represents classes F sign e x (minus_rows sign x c ++ [])
  minus_uses true F e c x below is fresh = pos_minus c below is fresh refl
  minus_uses false F e c x below is fresh = neg_minus c below is fresh refl

  made_minus : (old new : Maker) (sign : Bool) (e : Expr) (c x : ℕ) → c < classes → e ≡ Minus (Name c) → Closes old new x (minus_rows sign x c) → IsUse classes old new sign e x
  made_minus old new sign e c x below is close = λ labels count. record {
    after = labels ++ use_of sign e ∷ [];
    grows = fresh_more classes labels (use_of sign e);
    count = (let l = length_end labels (use_of sign e) in let n = close.1 in omega (arith, l, n, count));
    axs = minus_rows sign x c ++ [];
    uses = minus_uses sign (IsFresh classes (labels ++ use_of sign e ∷ [])) e c x below is (fresh_end classes labels (use_of sign e) x (close.0 ∙ sym count));
    adds = adds_both old old new [] (minus_rows sign x c) (adds_none old) close.2;
    paired = paired_more classes labels (use_of sign e) (not_rest sign e);
    mentioned = mentioned_one old new x (minus_rows sign x c ++ []) close.0 close.1;
  }

  some_uses : (sign : Bool) (F : ℕ → Label → Type 0) (e part : Expr) (r x y : ℕ) (axs : List NormalAxiom) → e ≡ SomeOf r part → F x (use_of sign e) → Represents classes F sign part y axs → Represents classes F sign e x (some_rows sign x r y ++ axs)
  some_uses true F e part r x y axs is fresh u = pos_some r part y axs is fresh u refl
  some_uses false F e part r x y axs is fresh u = neg_some r part y axs is fresh u refl

  made_some : (old mid new : Maker) (sign : Bool) (e part : Expr) (r x y : ℕ) → e ≡ SomeOf r part → IsUse classes old mid sign part y → Closes mid new x (some_rows sign x r y) → IsUse classes old new sign e x
  made_some old mid new sign e part r x y is u close = λ labels count.
      let m = u labels count in
      record {
        after = m.after ++ use_of sign e ∷ [];
        grows = λ a k f. fresh_more classes m.after (use_of sign e) a k (m.grows a k f);
        count = (let l = length_end m.after (use_of sign e) in let n = close.1 in let q = m.count in omega (arith, l, n, q));
        axs = some_rows sign x r y ++ m.axs;
        uses = some_uses sign (IsFresh classes (m.after ++ use_of sign e ∷ [])) e part r x y m.axs is (fresh_end classes m.after (use_of sign e) x (close.0 ∙ sym m.count))
            (more classes (IsFresh classes m.after) (IsFresh classes (m.after ++ use_of sign e ∷ [])) (fresh_more classes m.after (use_of sign e)) m.uses);
        adds = adds_both old mid new m.axs (some_rows sign x r y) m.adds close.2;
        paired = λ p. paired_more classes m.after (use_of sign e) (not_rest sign e) (m.paired p);
        mentioned = mentioned_both old mid new (y ∷ []) (x ∷ []) m.axs (some_rows sign x r y) m.mentioned (covers_some sign x r y) (mentioned_one mid new x (some_rows sign x r y) close.0 close.1);
      }

  -- what the code's arms owe
  pub arm_name : (m : Maker) (sign flipped : Bool) (e : Expr) (c : ℕ) → c < classes → flipped ≡ false → e ≡ Name c → IsUse classes m m sign (form flipped e) c
  arm_name m sign flipped e c below f is = made_name m sign (form flipped e) c below (ap (λ b. form b e) f ∙ ap nnf is ∙ nnf-Name c)

  pub arm_not_name : (old new : Maker) (sign flipped : Bool) (e : Expr) (c x : ℕ) → c < classes → flipped ≡ true → e ≡ Name c → Closes old new x (minus_rows sign x c) → IsUse classes old new sign (form flipped e) x
  arm_not_name old new sign flipped e c x below f is close = made_minus old new sign (form flipped e) c x below (ap (λ b. form b e) f ∙ ap nnf_not is ∙ nnf_not-Name c) close

  flip_form : (flipped : Bool) (part : Expr) → form (not flipped) part ≡ form flipped (Minus part)
  flip_form true part = sym (nnf_not-Minus part)
  flip_form false part = sym (nnf-Minus part)

  pub arm_some : (old mid new : Maker) (sign flipped : Bool) (e part : Expr) (r x y : ℕ) → flipped ≡ false → e ≡ SomeOf r part → IsUse classes old mid sign (form flipped part) y → Closes mid new x (some_rows sign x r y) → IsUse classes old new sign (form flipped e) x
  arm_some old mid new sign flipped e part r x y f is u close = made_some old mid new sign (form flipped e) (form flipped part) r x y
      (ap (λ b. form b e) f ∙ ap nnf is ∙ nnf-SomeOf r part ∙ ap (λ b. SomeOf r (form b part)) (sym f)) u close

  pub arm_not_all : (old mid new : Maker) (sign flipped : Bool) (e part : Expr) (r x y : ℕ) → flipped ≡ true → e ≡ AllOf r part → IsUse classes old mid sign (form flipped part) y → Closes mid new x (some_rows sign x r y) → IsUse classes old new sign (form flipped e) x
  arm_not_all old mid new sign flipped e part r x y f is u close = made_some old mid new sign (form flipped e) (form flipped part) r x y
      (ap (λ b. form b e) f ∙ ap nnf_not is ∙ nnf_not-AllOf r part ∙ ap (λ b. SomeOf r (form b part)) (sym f)) u close

pub app_assoc : {X : Type 0} (xs ys zs : List X) → (xs ++ ys) ++ zs ≡ xs ++ (ys ++ zs)
app_assoc [] ys zs = refl
app_assoc (x ∷ xs) ys zs = ap (λ l. x ∷ l) (app_assoc xs ys zs)

map_app : {X Y : Type 0} (f : X → Y) (xs ys : List X) → map f (xs ++ ys) ≡ map f xs ++ map f ys
map_app f [] ys = refl
map_app f (x ∷ xs) ys = ap (λ l. f x ∷ l) (map_app f xs ys)

pub adds_then : (old mid new : Maker) (axs bs : List NormalAxiom) → Adds old mid axs → Adds mid new bs → Adds old new (axs ++ bs)
adds_then old mid new axs bs f g a = (
  λ h. elim ((g a).0 h) [ inl m ↦ elim ((f a).0 m) [ inl o ↦ inl o | inr k ↦ inr (member_left a axs bs k) ] | inr k ↦ inr (member_right a axs bs k) ],
  λ w. elim w [
    | inl o ↦ (g a).1 (inl ((f a).1 (inl o)))
    | inr k ↦ elim (member_cases a axs bs k) [ inl p ↦ (g a).1 (inl ((f a).1 (inr p))) | inr q ↦ (g a).1 (inr q) ]
  ],
)

link_app : (o : Bool) (x : ℕ) (ys zs : List ℕ) → link_rows o x (ys ++ zs) ≡ link_rows o x ys ++ link_rows o x zs
link_app true x ys zs = map_app (λ y. implies (x ∷ []) (y ∷ [])) ys zs
link_app false x ys zs = map_app (λ y. implies (y ∷ []) (x ∷ [])) ys zs

pub link_more : (old mid new : Maker) (o : Bool) (x : ℕ) (ys : List ℕ) (i y : ℕ) → i < length ys → y ≡ get_or ys i y → Adds old mid (link_rows o x (take i ys)) → Adds mid new (link_rows o x (y ∷ [])) → Adds old new (link_rows o x (take (i + 1) ys))
link_more old mid new o x ys i y lt at f g =
    subst (Adds old new) (sym (ap (link_rows o x) (take_more ys i y lt ∙ ap (λ z. take i ys ++ z ∷ []) (sym at)) ∙ link_app o x (take i ys) (y ∷ [])))
    (adds_then old mid new (link_rows o x (take i ys)) (link_rows o x (y ∷ [])) f g)

module _ (classes : ℕ) where
  pub each_none : (m : Maker) (sign : Bool) (xs : List ℕ) → xs ≡ [] → IsUseEach classes m m sign [] xs
  each_none m sign xs is = λ labels count. record {
    after = labels;
    grows = λ a k f. f;
    count = count;
    axs = [];
    uses = subst (λ l. RepresentsEach classes (IsFresh classes labels) sign [] l []) (sym is) at_end;
    adds = adds_none m;
    paired = λ p. p;
    mentioned = mentioned_none m m xs [] (omega arith);
  }

  uses_end : (F : ℕ → Label → Type 0) {sign : Bool} {es : List Expr} {xs : List ℕ} {axs : List NormalAxiom} → RepresentsEach classes F sign es xs axs → (e : Expr) (x : ℕ) (b : List NormalAxiom) → Represents classes F sign e x b → RepresentsEach classes F sign (es ++ e ∷ []) (xs ++ x ∷ []) (axs ++ (b ++ []))
  uses_end F at_end e x b u = and_then b [] u at_end
  uses_end F {sign} (and_then {e = d} {es = es} {x = y} {xs = xs} here rest v w) e x b u =
      subst (RepresentsEach classes F sign (d ∷ (es ++ e ∷ [])) (y ∷ (xs ++ x ∷ []))) (sym (app_assoc here rest (b ++ []))) (and_then here (rest ++ (b ++ [])) v (uses_end F w e x b u))

  each_more : (old mid new : Maker) (sign : Bool) (es : List Expr) (xs : List ℕ) (e : Expr) (x : ℕ) → IsUseEach classes old mid sign es xs → IsUse classes mid new sign e x → IsUseEach classes old new sign (es ++ e ∷ []) (xs ++ x ∷ [])
  each_more old mid new sign es xs e x f u = λ labels count.
      let m = f labels count in
      let n = u m.after m.count in
      record {
        after = n.after;
        grows = λ a k h. n.grows a k (m.grows a k h);
        count = n.count;
        axs = m.axs ++ (n.axs ++ []);
        uses = uses_end (IsFresh classes n.after) (more_each classes (IsFresh classes m.after) (IsFresh classes n.after) n.grows m.uses) e x n.axs n.uses;
        adds = adds_then old mid new m.axs (n.axs ++ []) m.adds (adds_then mid new new n.axs [] n.adds (adds_none new));
        paired = λ p. n.paired (m.paired p);
        mentioned = mentioned_then old mid new xs (x ∷ []) m.axs (n.axs ++ []) m.mentioned (mentioned_then mid new new (x ∷ []) [] n.axs [] n.mentioned (mentioned_none new new [] [] (omega arith)));
      }

  pub each_step : (old mid new : Maker) (sign flipped : Bool) (parts : List Expr) (i : ℕ) (e : Expr) (made : List ℕ) (x : ℕ) (xs : List ℕ) → i < length parts → e ≡ get_or parts i e → xs ≡ made ++ x ∷ []
      → IsUseEach classes old mid sign (map (form flipped) (take i parts)) made → IsUse classes mid new sign (form flipped e) x → IsUseEach classes old new sign (map (form flipped) (take (i + 1) parts)) xs
  each_step old mid new sign flipped parts i e made x xs lt at is f u =
      subst (λ (l : List Expr). IsUseEach classes old new sign l xs)
      (sym (ap (map (form flipped)) (take_more parts i e lt ∙ ap (λ (d : Expr). take i parts ++ d ∷ []) (sym at)) ∙ map_app (form flipped) (take i parts) (e ∷ [])))
      (subst (IsUseEach classes old new sign (map (form flipped) (take i parts) ++ form flipped e ∷ [])) (sym is)
      (each_more old mid new sign (map (form flipped) (take i parts)) made (form flipped e) x f u))

  list_uses : (meet sign : Bool) (F : ℕ → Label → Type 0) (e : Expr) (parts : List Expr) (x : ℕ) (ys : List ℕ) (axs : List NormalAxiom) → e ≡ cond meet (Meet parts) (Join parts) → F x (use_of sign e) → RepresentsEach classes F sign parts ys axs → Represents classes F sign e x (list_rows meet sign x ys ++ axs)
  list_uses true true F e parts x ys axs is fresh u = pos_meet parts ys axs is fresh u refl
  list_uses true false F e parts x ys axs is fresh u = neg_meet parts ys axs is fresh u refl
  list_uses false true F e parts x ys axs is fresh u = pos_join parts ys axs is fresh u refl
  list_uses false false F e parts x ys axs is fresh u = neg_join parts ys axs is fresh u refl

  made_list : (old mid new : Maker) (meet sign : Bool) (e : Expr) (parts : List Expr) (x : ℕ) (ys : List ℕ) → e ≡ cond meet (Meet parts) (Join parts) → IsUseEach classes old mid sign parts ys → Closes mid new x (list_rows meet sign x ys) → IsUse classes old new sign e x
  made_list old mid new meet sign e parts x ys is u close = λ labels count.
      let m = u labels count in
      record {
        after = m.after ++ use_of sign e ∷ [];
        grows = λ a k f. fresh_more classes m.after (use_of sign e) a k (m.grows a k f);
        count = (let l = length_end m.after (use_of sign e) in let n = close.1 in let q = m.count in omega (arith, l, n, q));
        axs = list_rows meet sign x ys ++ m.axs;
        uses = list_uses meet sign (IsFresh classes (m.after ++ use_of sign e ∷ [])) e parts x ys m.axs is (fresh_end classes m.after (use_of sign e) x (close.0 ∙ sym m.count))
            (more_each classes (IsFresh classes m.after) (IsFresh classes (m.after ++ use_of sign e ∷ [])) (fresh_more classes m.after (use_of sign e)) m.uses);
        adds = adds_both old mid new m.axs (list_rows meet sign x ys) m.adds close.2;
        paired = λ p. paired_more classes m.after (use_of sign e) (not_rest sign e) (m.paired p);
        mentioned = mentioned_both old mid new ys (x ∷ []) m.axs (list_rows meet sign x ys) m.mentioned (covers_list meet sign x ys) (mentioned_one mid new x (list_rows meet sign x ys) close.0 close.1);
      }

  form_meet : (flipped : Bool) (parts : List Expr) → form flipped (Meet parts) ≡ cond (not flipped) (Meet (map (form flipped) parts)) (Join (map (form flipped) parts))
  form_meet true parts = nnf_not-Meet parts
  form_meet false parts = nnf-Meet parts

  form_join : (flipped : Bool) (parts : List Expr) → form flipped (Join parts) ≡ cond flipped (Meet (map (form flipped) parts)) (Join (map (form flipped) parts))
  form_join true parts = nnf_not-Join parts
  form_join false parts = nnf-Join parts

  pub arm_meet : (old mid new : Maker) (sign flipped : Bool) (e : Expr) (parts : List Expr) (x : ℕ) (ys : List ℕ) → e ≡ Meet parts → IsUseEach classes old mid sign (map (form flipped) parts) ys → Closes mid new x (list_rows (not flipped) sign x ys) → IsUse classes old new sign (form flipped e) x
  arm_meet old mid new sign flipped e parts x ys is u close = made_list old mid new (not flipped) sign (form flipped e) (map (form flipped) parts) x ys (ap (form flipped) is ∙ form_meet flipped parts) u close

  pub arm_join : (old mid new : Maker) (sign flipped : Bool) (e : Expr) (parts : List Expr) (x : ℕ) (ys : List ℕ) → e ≡ Join parts → IsUseEach classes old mid sign (map (form flipped) parts) ys → Closes mid new x (list_rows flipped sign x ys) → IsUse classes old new sign (form flipped e) x
  arm_join old mid new sign flipped e parts x ys is u close = made_list old mid new flipped sign (form flipped e) (map (form flipped) parts) x ys (ap (form flipped) is ∙ form_join flipped parts) u close

module _ (classes : ℕ) where
  pub arm_all : (old mid new : Maker) (sign : Bool) (part : Expr) (r x y : ℕ) → sign ≡ true → IsUse classes old mid true part y → Closes mid new x (n4 (triple x r y) ∷ []) → IsUse classes old new sign (AllOf r part) x
  arm_all old mid new sign part r x y s u close = subst (λ b. IsUse classes old new b (AllOf r part) x) (sym s) (λ labels count.
      let m = u labels count in
      let e = AllOf r part in
      record {
        after = m.after ++ use_of true e ∷ [];
        grows = λ a k f. fresh_more classes m.after (use_of true e) a k (m.grows a k f);
        count = (let l = length_end m.after (use_of true e) in let n = close.1 in let q = m.count in omega (arith, l, n, q));
        axs = n4 (triple x r y) ∷ m.axs;
        uses = pos_all r part y m.axs refl (fresh_end classes m.after (use_of true e) x (close.0 ∙ sym m.count))
            (more classes (IsFresh classes m.after) (IsFresh classes (m.after ++ use_of true e ∷ [])) (fresh_more classes m.after (use_of true e)) m.uses) refl;
        adds = adds_both old mid new m.axs (n4 (triple x r y) ∷ []) m.adds close.2;
        paired = λ p. paired_more classes m.after (use_of true e) (not_rest true e) (m.paired p);
        mentioned = mentioned_both old mid new (y ∷ []) (x ∷ []) m.axs (n4 (triple x r y) ∷ []) m.mentioned (covers_all x r y) (mentioned_one mid new x (n4 (triple x r y) ∷ []) close.0 close.1);
      })

  other_form : (flipped : Bool) (part : Expr) → form (not flipped) part ≡ nnf_not (form flipped part)
  other_form true part = sym (twice part).1
  other_form false part = sym (twice part).0

  pub arm_rest : (old mid new : Maker) (sign flipped : Bool) (part : Expr) (r x z : ℕ) → sign ≡ false → IsUse classes old mid true (form (not flipped) part) z → ClosesTwo mid new x (rest_rows x r z) → IsUse classes old new sign (AllOf r (form flipped part)) x
  arm_rest old mid new sign flipped part r x z s u close = subst (λ b. IsUse classes old new b (AllOf r (form flipped part)) x) (sym s) (λ labels count.
      let m = u labels count in
      let e = AllOf r (form flipped part) in
      let one = m.after ++ use_of false e ∷ [] in
      let two = one ++ rest_of x e ∷ [] in
      let up : (a : ℕ) (k : Label) → IsFresh classes m.after a k → IsFresh classes two a k = λ a k f. fresh_more classes one (rest_of x e) a k (fresh_more classes m.after (use_of false e) a k f) in
      let l = length_end m.after (use_of false e) in
      let l2 = length_end one (rest_of x e) in
      let n = close.1 in
      let q = m.count in
      let is_x = close.0 in
      record {
        after = two;
        grows = λ a k f. up a k (m.grows a k f);
        count = omega (arith, l, l2, n, q);
        axs = rest_rows x r z ++ m.axs;
        uses = neg_all r (form flipped part) (x + 1) z m.axs refl
            (fresh_more classes one (rest_of x e) x (use_of false e) (fresh_end classes m.after (use_of false e) x (close.0 ∙ sym m.count)))
            (fresh_end classes one (rest_of x e) (x + 1) (omega (arith, l, q, is_x)))
            (subst (λ (d : Expr). Represents classes (IsFresh classes two) true d z m.axs) (other_form flipped part) (more classes (IsFresh classes m.after) (IsFresh classes two) up m.uses)) refl;
        adds = adds_both old mid new m.axs (rest_rows x r z) m.adds close.2;
        paired = λ p. paired_rest classes one x e (omega (arith, l, n, q, is_x)) (paired_more classes m.after (use_of false e) (not_rest false e) (m.paired p));
        mentioned = mentioned_both old mid new (z ∷ []) (x ∷ []) m.axs (rest_rows x r z) m.mentioned (covers_rest x r z) (mentioned_rest mid new x r z close.0 close.1);
      })
