-- Unions of the first operands, one after the other.
use Rattle.std.proofs.Common.{◌≡◌, ◌⊎◌, ◌↔◌, ℕ, suc, ◌+◌, ◌<◌, ◌≤◌, List, [], ◌∷◌, ◌++◌, length, get_or, drop, refl, sym, ap, subst, ◌∙◌, inl, inr, arith}
use Rattle.std.proofs.lemmas.List.{drop_more, drop_all, length-drop, length_push}
use Rattle.cd_base.specs.Lists.{OneOf}
use Rattle.cd_meaning.specs.declared.expression.Expr.{Expr}
use Rattle.cd_meaning.specs.NormalAxioms.{NormalAxiom, implies}
use Rattle.cd_normal.specs.declared.maker.Maker.{Maker}
use Rattle.cd_normal.specs.Represents.{Label, rest_of, chain_of}
use Rattle.cd_normal.specs.NormalForm.{IsFresh, Chain, Apart}
use Rattle.cd_normal.specs.Made.{IsPaired, Mentioned, Adds, Closes, MadeBy, IsGiven}
use Rattle.cd_normal.proofs.Making.{fresh_more, fresh_end, paired_more, adds_then}
use Rattle.cd_normal.proofs.Mentions.{mentioned_then}
use Rattle.cd_normal.proofs.Tests.{member_left, member_right, member_cases}

-- what a new union adds
abbrev pub union_rows : ℕ → ℕ → ℕ → List NormalAxiom
union_rows x p q = implies (x ∷ []) (q ∷ []) ∷ implies (p ∷ []) (q ∷ []) ∷ implies (x ∷ p ∷ []) [] ∷ []

-- all that the operands give: these axioms and those still to come
pub record Completed (classes k : ℕ) (labels : List Label) (es : List Expr) (xs : List ℕ) (axs more : List NormalAxiom) : Type 0 where
  pub whole : List NormalAxiom
  pub apart : Apart classes (IsFresh classes labels) k es xs whole
  pub has : (a : NormalAxiom) → OneOf a whole ↔ (OneOf a axs ⊎ OneOf a more)

-- an account goes on to one by which p is the union of the operands before, and what the rest gives from here completes what all give
pub record Begun (classes k : ℕ) (old now : Maker) (labels : List Label) (es : List Expr) (xs : List ℕ) (before rest : List Expr) (p : ℕ) (others : List ℕ) : Type 0 where
  pub after : List Label
  pub grows : (a : ℕ) (l : Label) → IsFresh classes labels a l → IsFresh classes after a l
  pub count : classes + length after ≡ now.next
  pub paired : IsPaired classes labels → IsPaired classes after
  pub axs : List NormalAxiom
  pub mentioned : Mentioned old now [] axs
  pub adds : Adds old now axs
  pub completes : (l : List Label) → ((a : ℕ) (m : Label) → IsFresh classes after a m → IsFresh classes l a m) → (more : List NormalAxiom)
      → Chain classes (IsFresh classes l) k before p rest others more → Completed classes k l es xs axs more

-- the same for every account of the atoms so far
abbrev pub IsBegun : Maker → Maker → List ℕ → ℕ → List ℕ → Type 0
IsBegun old now xs p others = (classes k : ℕ) (es : List Expr) → length es ≡ length xs → (labels : List Label) → classes + length labels ≡ old.next
    → (before rest : List Expr) × (length rest ≡ length others) × Begun classes k old now labels es xs before rest p others

not_rest : (k : ℕ) (es : List Expr) (x : ℕ) (e : Expr) → chain_of k es ≡ rest_of x e → ⊥
not_rest k es x e is = cc

-- the fresh atom is mentioned on the right of a first axiom
mentioned_first : (old new : Maker) (x q : ℕ) (more : List NormalAxiom) → q ≡ old.next → new.next ≡ old.next + 1 → Mentioned old new [] (implies (x ∷ []) (q ∷ []) ∷ more)
mentioned_first old new x q more is next a low high = inr (implies (x ∷ []) (q ∷ []), inl refl, inr (inl (omega (arith, is, next, low, high))))

module _ (old new : Maker) where
  -- from the first operand
  first : (x : ℕ) (xs : List ℕ) (p : ℕ) → 2 ≤ length xs → Closes old new p (implies (x ∷ []) (p ∷ []) ∷ []) → IsBegun old new (x ∷ xs) p xs
  first x xs p two close classes k [] long = absurd (omega (arith, long))
  first x xs p two close classes k (e ∷ []) long = absurd (omega (arith, long))
  first x xs p two close classes k (e ∷ f ∷ []) long = absurd (omega (arith, long))
  first x xs p two close classes k (e ∷ f ∷ g ∷ es) long = λ labels count.
      let label = chain_of k (e ∷ []) in
      let more_labels = labels ++ label ∷ [] in (
        e ∷ [],
        f ∷ g ∷ es,
        omega (arith, long),
        record {
          after = more_labels;
          grows = fresh_more classes labels label;
          count = (let l = length_push labels label in let n = close.1 in omega (arith, l, n, count));
          paired = paired_more classes labels label (not_rest k (e ∷ []));
          axs = implies (x ∷ []) (p ∷ []) ∷ [];
          mentioned = mentioned_first old new x p [] close.0 close.1;
          adds = close.2;
          completes = λ l up more c. record {
            whole = implies (x ∷ []) (p ∷ []) ∷ more;
            apart = (p, more, up p label (fresh_end classes labels label p (close.0 ∙ sym count)), c, refl);
            has = λ a. (λ m. elim m [ inl is ↦ inl (inl is) | inr n ↦ inr n ], λ w. elim w [ inl m ↦ elim m [ inl is ↦ inl is | inr z ↦ absurd z ] | inr n ↦ inr n ]);
          };
        },
      )

module _ (old now new : Maker) where
  -- a union more
  more_of : (classes k : ℕ) (labels : List Label) (es : List Expr) (xs : List ℕ) (before rest : List Expr) (p x y : ℕ) (ys : List ℕ) (q : ℕ) → length rest ≡ suc (suc (length ys))
      → Closes now new q (union_rows x p q) → Begun classes k old now labels es xs before rest p (x ∷ y ∷ ys)
      → (before' rest' : List Expr) × (length rest' ≡ suc (length ys)) × Begun classes k old new labels es xs before' rest' q (y ∷ ys)
  more_of classes k labels es xs before [] p x y ys q long close b = absurd (omega (arith, long))
  more_of classes k labels es xs before (e ∷ []) p x y ys q long close b = absurd (omega (arith, long))
  more_of classes k labels es xs before (e ∷ f ∷ rest) p x y ys q long close b =
      let label = chain_of k (e ∷ before) in
      let more_labels = b.after ++ label ∷ [] in (
        e ∷ before,
        f ∷ rest,
        omega (arith, long),
        record {
          after = more_labels;
          grows = λ a l h. fresh_more classes b.after label a l (b.grows a l h);
          count = (let l = length_push b.after label in let n = close.1 in let c = b.count in omega (arith, l, n, c));
          paired = λ h. paired_more classes b.after label (not_rest k (e ∷ before)) (b.paired h);
          axs = b.axs ++ union_rows x p q;
          mentioned = mentioned_then old now new [] [] b.axs (union_rows x p q) b.mentioned (mentioned_first now new x q (implies (p ∷ []) (q ∷ []) ∷ implies (x ∷ p ∷ []) [] ∷ []) close.0 close.1);
          adds = adds_then old now new b.axs (union_rows x p q) b.adds close.2;
          completes = λ l up more c.
              let whole = b.completes l (λ a m h. up a m (fresh_more classes b.after label a m h)) (union_rows x p q ++ more)
              (q, more, up q label (fresh_end classes b.after label q (close.0 ∙ sym b.count)), c, refl) in
              record {
                whole = whole.whole;
                apart = whole.apart;
                has = λ a. (
                  λ m. elim ((whole.has a).0 m) [
                    | inl h ↦ inl (member_left a b.axs (union_rows x p q) h)
                    | inr h ↦ elim (member_cases a (union_rows x p q) more h) [ inl r ↦ inl (member_right a b.axs (union_rows x p q) r) | inr r ↦ inr r ]
                  ],
                  λ w. elim w [
                    | inl h ↦ elim (member_cases a b.axs (union_rows x p q) h) [ inl r ↦ (whole.has a).1 (inl r) | inr r ↦ (whole.has a).1 (inr (member_left a (union_rows x p q) more r)) ]
                    | inr h ↦ (whole.has a).1 (inr (member_right a (union_rows x p q) more h))
                  ],
                );
              };
        },
      )

  -- the last operand
  last_of : (classes k : ℕ) (labels : List Label) (es : List Expr) (xs : List ℕ) (before rest : List Expr) (p x : ℕ) → length rest ≡ 1
      → new.next ≡ now.next → Adds now new (implies (x ∷ p ∷ []) [] ∷ []) → Begun classes k old now labels es xs before rest p (x ∷ [])
      → MadeBy classes old new labels (λ Fresh axs. Apart classes Fresh k es xs axs)
  last_of classes k labels es xs before [] p x long next adds b = absurd (omega (arith, long))
  last_of classes k labels es xs before (e ∷ f ∷ rest) p x long next adds b = absurd (omega (arith, long))
  last_of classes k labels es xs before (e ∷ []) p x long next adds b =
      let c = b.completes b.after (λ a m h. h) (implies (x ∷ p ∷ []) [] ∷ []) refl in
      record {
        after = b.after;
        grows = b.grows;
        count = b.count ∙ sym next;
        paired = b.paired;
        axs = c.whole;
        made = c.apart;
        mentioned = λ a low high. elim (b.mentioned a low (omega (arith, next, high))) [ inl m ↦ absurd m | inr m ↦ inr (m.0, (c.has m.0).1 (inl m.1), m.2) ];
        adds = λ a. (
          λ h. elim ((adds a).0 h) [ inl o ↦ elim ((b.adds a).0 o) [ inl old ↦ inl old | inr m ↦ inr ((c.has a).1 (inl m)) ] | inr m ↦ inr ((c.has a).1 (inr m)) ],
          λ w. elim w [
            | inl o ↦ (adds a).1 (inl ((b.adds a).1 (inl o)))
            | inr m ↦ elim ((c.has a).0 m) [ inl r ↦ (adds a).1 (inl ((b.adds a).1 (inr r))) | inr r ↦ (adds a).1 (inr r) ]
          ],
        );
      }

split : (xs : List ℕ) (i x : ℕ) → i < length xs → x ≡ get_or xs i x → drop i xs ≡ x ∷ drop (i + 1) xs
split xs i x lt at = drop_more xs i x lt ∙ ap (λ z. z ∷ drop (i + 1) xs) (sym at)

pub begun_first : (old new : Maker) (xs : List ℕ) (x p : ℕ) → 3 ≤ length xs → x ≡ get_or xs 0 x → Closes old new p (implies (x ∷ []) (p ∷ []) ∷ []) → IsBegun old new xs p (drop 1 xs)
begun_first old new [] x p three at close = absurd (omega (arith, three))
begun_first old new (z ∷ xs) x p three at close = subst (λ n. IsBegun old new (n ∷ xs) p xs) at (first old new x xs p (omega (arith, three)) close)

more_at : (old now new : Maker) (xs : List ℕ) (x p q : ℕ) (others : List ℕ) → 1 ≤ length others → Closes now new q (union_rows x p q) → IsBegun old now xs p (x ∷ others) → IsBegun old new xs q others
more_at old now new xs x p q [] some close b = absurd (omega (arith, some))
more_at old now new xs x p q (y ∷ ys) some close b = λ classes k es long labels count.
    let w = b classes k es long labels count in
    more_of old now new classes k labels es xs w.0 w.1 p x y ys q w.2 close w.3

pub begun_more : (old now new : Maker) (xs : List ℕ) (i x p q : ℕ) → i + 1 < length xs → x ≡ get_or xs i x → Closes now new q (union_rows x p q) → IsBegun old now xs p (drop i xs) → IsBegun old new xs q (drop (i + 1) xs)
begun_more old now new xs i x p q lt at close b =
    let d = length-drop (i + 1) xs in
    more_at old now new xs x p q (drop (i + 1) xs) (omega (arith, d, lt)) close (subst (IsBegun old now xs p) (split xs i x (omega (arith, lt)) at) b)

pub begun_last : (old now new : Maker) (xs : List ℕ) (i x p : ℕ) → i + 1 ≡ length xs → x ≡ get_or xs i x → new.next ≡ now.next → Adds now new (implies (x ∷ p ∷ []) [] ∷ []) → IsBegun old now xs p (drop i xs)
    → (classes k : ℕ) (es : List Expr) → length es ≡ length xs → IsGiven classes old new (λ Fresh axs. Apart classes Fresh k es xs axs)
begun_last old now new xs i x p last at next adds b classes k es long labels count =
    let none : drop (i + 1) xs ≡ [] = drop_all (i + 1) xs (omega (arith, last)) in
    let here : drop i xs ≡ x ∷ [] = split xs i x (omega (arith, last)) at ∙ ap (λ l. x ∷ l) none in
    let w = subst (IsBegun old now xs p) here b classes k es long labels count in
    last_of old now new classes k labels es xs w.0 w.1 p x w.2 next adds w.3

-- two operands need no union
pub two_apart : (old new : Maker) (xs : List ℕ) (x y : ℕ) → length xs ≡ 2 → x ≡ get_or xs 0 x → y ≡ get_or xs 1 y → new.next ≡ old.next → Adds old new (implies (x ∷ y ∷ []) [] ∷ [])
    → (classes k : ℕ) (es : List Expr) → length es ≡ length xs → IsGiven classes old new (λ Fresh axs. Apart classes Fresh k es xs axs)
two_apart old new [] x y two at at' next adds classes k es long = absurd (omega (arith, two))
two_apart old new (z ∷ []) x y two at at' next adds classes k es long = absurd (omega (arith, two))
two_apart old new (z ∷ w ∷ v ∷ more) x y two at at' next adds classes k es long = absurd (omega (arith, two))
two_apart old new (z ∷ w ∷ []) x y two at at' next adds classes k [] long = absurd (omega (arith, long))
two_apart old new (z ∷ w ∷ []) x y two at at' next adds classes k (e ∷ []) long = absurd (omega (arith, long))
two_apart old new (z ∷ w ∷ []) x y two at at' next adds classes k (e ∷ f ∷ g ∷ es) long = absurd (omega (arith, long))
two_apart old new (z ∷ w ∷ []) x y two at at' next adds classes k (e ∷ f ∷ []) long = λ labels count. record {
  after = labels;
  grows = λ a l h. h;
  count = count ∙ sym next;
  paired = λ h. h;
  axs = implies (z ∷ w ∷ []) [] ∷ [];
  made = refl;
  mentioned = λ a low high. absurd (omega (arith, next, low, high));
  adds = subst (λ n. Adds old new (implies (n ∷ w ∷ []) [] ∷ [])) at (subst (λ n. Adds old new (implies (x ∷ n ∷ []) [] ∷ [])) at' adds);
}
