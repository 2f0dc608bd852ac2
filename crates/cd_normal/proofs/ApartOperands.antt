-- What the kept operands give.
use Rattle.std.proofs.Common.{◌≡◌, ℕ, ◌+◌, ◌*◌, ◌<◌, ◌≤◌, ◌^◌, false, List, [], ◌∷◌, ◌++◌, map, length, sum_by, refl, sym, ap, subst, inl, inr, arith}
use Rattle.std.proofs.lemmas.List.Sums.{sum_by-cons}
use Rattle.cd_base.specs.Lists.{OneOf}
use Rattle.cd_meaning.specs.declared.expression.Expr.{Expr}
use Rattle.cd_meaning.specs.NormalAxioms.{NormalAxiom, implies}
use Rattle.cd_meaning.specs.Nodes.{nodes_of}
use Rattle.cd_nnf.specs.Nnf.{nnf}
use Rattle.cd_meaning.specs.Induction.{induct}
use Rattle.cd_normal.specs.declared.maker.Maker.{Maker}
use Rattle.cd_normal.specs.Represents.{Label, RepresentsEach}
use Rattle.cd_normal.specs.NormalForm.{IsFresh, Kept, Chain, Apart, RepresentsApart, GivesApart}
use Rattle.cd_normal.specs.Made.{IsMentioned, IsUseEach, IsGiven, IsGrown, IsGrownBy}
use Rattle.cd_normal.proofs.Making.{more_each, adds_both}
use Rattle.cd_normal.proofs.Mentions.{mentioned_both}
use Rattle.cd_meaning.specs.NodesTable.{nodes-Name, nodes-Meet, nodes-Join, nodes-Minus, nodes-SomeOf, nodes-AllOf}

-- ---- each atom is mentioned

module _ (classes : ℕ) (Fresh : ℕ → Label → Type 0) (k : ℕ) where
  chain_mentions : (before : List Expr) (p : ℕ) (es : List Expr) (xs : List ℕ) (axs : List NormalAxiom) → length es ≡ length xs → Chain classes Fresh k before p es xs axs → (a : ℕ) → OneOf a xs → IsMentioned a axs
  chain_mentions before p [] xs axs long c a m = absurd c
  chain_mentions before p (e ∷ []) [] axs long c a m = absurd c
  chain_mentions before p (e ∷ []) (x ∷ []) axs long c a (inl is) = (implies (x ∷ p ∷ []) [], subst (OneOf (implies (x ∷ p ∷ []) [])) (sym c) (inl refl), inl (inl is))
  chain_mentions before p (e ∷ []) (x ∷ []) axs long c a (inr m) = absurd m
  chain_mentions before p (e ∷ []) (x ∷ y ∷ xs) axs long c a m = absurd (omega (arith, long))
  chain_mentions before p (e ∷ f ∷ es) [] axs long c a m = absurd c
  chain_mentions before p (e ∷ f ∷ es) (x ∷ xs) axs long (q, more, fresh, c, is) a (inl same) = (implies (x ∷ []) (q ∷ []), subst (OneOf (implies (x ∷ []) (q ∷ []))) (sym is) (inl refl), inl (inl same))
  chain_mentions before p (e ∷ f ∷ es) (x ∷ xs) axs long (q, more, fresh, c, is) a (inr m) =
      let w = chain_mentions (e ∷ before) q (f ∷ es) xs more (omega (arith, long)) c a m in
      (w.0, subst (OneOf w.0) (sym is) (inr (inr (inr w.1))), w.2)

  apart_mentions : (es : List Expr) (xs : List ℕ) (axs : List NormalAxiom) → 2 ≤ length es → length es ≡ length xs → Apart classes Fresh k es xs axs → (a : ℕ) → OneOf a xs → IsMentioned a axs
  apart_mentions [] xs axs two long c a m = absurd (omega (arith, two))
  apart_mentions (e ∷ []) xs axs two long c a m = absurd (omega (arith, two))
  apart_mentions (e ∷ f ∷ []) xs axs two long c a m = (implies xs [], subst (OneOf (implies xs [])) (sym c) (inl refl), inl m)
  apart_mentions (e ∷ f ∷ g ∷ es) [] axs two long c a m = absurd c
  apart_mentions (e ∷ f ∷ g ∷ es) (x ∷ xs) axs two long (p, more, fresh, c, is) a (inl same) = (implies (x ∷ []) (p ∷ []), subst (OneOf (implies (x ∷ []) (p ∷ []))) (sym is) (inl refl), inl (inl same))
  apart_mentions (e ∷ f ∷ g ∷ es) (x ∷ xs) axs two long (p, more, fresh, c, is) a (inr m) =
      let w = chain_mentions (e ∷ []) p (f ∷ g ∷ es) xs more (omega (arith, long)) c a m in
      (w.0, subst (OneOf w.0) (sym is) (inr w.1), w.2)

  -- two or more operands are used
  uses_apart : (kept : List Expr) (xs : List ℕ) (a b : List NormalAxiom) → 2 ≤ length kept → RepresentsEach classes Fresh false (map nnf kept) xs a → Apart classes Fresh k kept xs b → RepresentsApart classes Fresh k kept (b ++ a)
  uses_apart [] xs a b two u c = absurd (omega (arith, two))
  uses_apart (e ∷ []) xs a b two u c = absurd (omega (arith, two))
  uses_apart (e ∷ f ∷ es) xs a b two u c = (xs, a, b, u, c, refl)

pub given_apart : (classes k : ℕ) (old mid new : Maker) (operands kept : List Expr) (xs : List ℕ) → Kept [] operands kept → 2 ≤ length kept → length kept ≡ length xs
    → IsUseEach classes old mid false (map nnf kept) xs → IsGiven classes mid new (λ Fresh axs. Apart classes Fresh k kept xs axs) → IsGiven classes old new (λ Fresh axs. GivesApart classes Fresh k operands axs)
given_apart classes k old mid new operands kept xs is two long uses parts = λ labels count.
    let m = uses labels count in
    let n = parts m.after m.count in
    record {
      after = n.after;
      grows = λ a l h. n.grows a l (m.grows a l h);
      count = n.count;
      paired = λ h. n.paired (m.paired h);
      axs = n.axs ++ m.axs;
      made = (kept, is, uses_apart classes (IsFresh classes n.after) k kept xs m.axs n.axs two (more_each classes (IsFresh classes m.after) (IsFresh classes n.after) n.grows m.uses) n.made);
      mentioned = mentioned_both old mid new xs [] m.axs n.axs m.mentioned (λ a h. apart_mentions classes (IsFresh classes n.after) k kept xs n.axs two long n.made a h) n.mentioned;
      adds = adds_both old mid new m.axs n.axs m.adds n.adds;
    }

-- ---- numbers

some_nodes : (e : Expr) → 1 ≤ nodes_of e
some_nodes = induct (λ e. 1 ≤ nodes_of e)
    (λ c. let n = nodes-Name c in omega (arith, n))
    (λ parts h. let n = nodes-Meet parts in omega (arith, n))
    (λ parts h. let n = nodes-Join parts in omega (arith, n))
    (λ part h. let n = nodes-Minus part in omega (arith, n))
    (λ r part h. let n = nodes-SomeOf r part in omega (arith, n))
    (λ r part h. let n = nodes-AllOf r part in omega (arith, n))

length_nodes : (es : List Expr) → length es ≤ sum_by nodes_of es
length_nodes [] = omega arith
length_nodes (e ∷ es) = let s = sum_by-cons nodes_of e es in let n = some_nodes e in let h = length_nodes es in omega (arith, s, n, h)

kept_nodes_of : (seen l kept : List Expr) → Kept seen l kept → sum_by nodes_of kept ≤ sum_by nodes_of l
kept_nodes_of seen [] kept k = let e = ap (sum_by nodes_of) k in omega (arith, e)
kept_nodes_of seen (e ∷ l) kept (inl k) = let s = sum_by-cons nodes_of e l in let h = kept_nodes_of seen l kept k.1 in omega (arith, s, h)
kept_nodes_of seen (e ∷ l) kept (inr k) =
    let s = sum_by-cons nodes_of e l in
    let t = sum_by-cons nodes_of e k.1.0 in
    let i = ap (sum_by nodes_of) k.1.1 in
    let h = kept_nodes_of (e ∷ seen) l k.1.0 k.1.2 in
    omega (arith, s, t, i, h)

kept_nodes : (l kept : List Expr) → Kept [] l kept → sum_by nodes_of kept ≤ sum_by nodes_of l
kept_nodes = kept_nodes_of []

pub grown_apart : (old mid new : Maker) (l kept : List Expr) (n : ℕ) → Kept [] l kept → n ≡ length kept → IsGrownBy old mid false n (sum_by nodes_of kept) → IsGrown mid new n (3 * n)
    → IsGrown old new (3 * sum_by nodes_of l) (6 * sum_by nodes_of l)
grown_apart old mid new l kept n k long f g =
    let s = kept_nodes l kept k in
    let t = length_nodes kept in
    let f0 = f.0 in
    let f1 = f.1 in
    let g0 = g.0 in
    let g1 = g.1 in
    (omega (arith, s, t, f0, g0, long), omega (arith, s, t, f1, g1, long))

pub room_for_uses : (next : ℕ) (l kept : List Expr) → Kept [] l kept → next + 3 * sum_by nodes_of l < 2 ^ 32 → next + 2 * sum_by nodes_of kept < 2 ^ 32
room_for_uses next l kept k few = let s = kept_nodes l kept k in omega (arith, s, few)

pub room_for_chain : (old mid : Maker) (l kept : List Expr) (n : ℕ) → Kept [] l kept → n ≡ length kept → old.next + 3 * sum_by nodes_of l < 2 ^ 32 → IsGrownBy old mid false n (sum_by nodes_of kept) → mid.next + n < 2 ^ 32
room_for_chain old mid l kept n k long few g =
    let s = kept_nodes l kept k in
    let t = length_nodes kept in
    let g0 = g.0 in
    omega (arith, s, t, few, g0, long)
