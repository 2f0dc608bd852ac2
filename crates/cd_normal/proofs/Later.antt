-- What an axiom gives stays so when the account of the atoms goes on.
use Rattle.std.proofs.Common.{◌≡◌, ℕ, suc, ◌+◌, ◌*◌, ◌^◌, ◌<◌, ◌≤◌, List, [], ◌∷◌, ◌++◌, length, get_or, take, refl, sym, ap, subst, ◌∙◌, arith}
use Rattle.std.proofs.lemmas.List.{take_more}
use Rattle.std.proofs.lemmas.List.Sums.{sum_by_more, sum_by_more_le}
use Rattle.cd_meaning.specs.declared.expression.Expr.{Expr}
use Rattle.cd_meaning.specs.declared.expression.Axiom.{Axiom}
use Rattle.cd_meaning.specs.declared.expression.Axiom.TheVariants.{SubClass, SameClasses, Disjoint, DisjointUnion, SubRole, SameRoles, Domain, Range}
use Rattle.cd_meaning.specs.Nodes.{nodes, nodes_in}
use Rattle.cd_meaning.specs.NormalAxioms.{NormalAxiom}
use Rattle.cd_normal.specs.declared.maker.Maker.{Maker}
use Rattle.cd_normal.specs.Represents.{Label, chain_of}
use Rattle.cd_normal.specs.NormalForm.{IsFresh, Chain, Apart, RepresentsApart, GivesApart, Gives, GivesFrom}
use Rattle.cd_normal.specs.Made.{role_operands, IsGiven, IsGivenBy, IsGrown, IsGrownOnce}
use Rattle.cd_normal.proofs.Mentions.{mentioned_then, mentioned_none}
use Rattle.cd_normal.proofs.Making.{more, more_each, adds_then, adds_none, app_assoc}

module _ (classes : ℕ) (F G : ℕ → Label → Type 0) (up : (a : ℕ) (k : Label) → F a k → G a k) where
  chain_more : (k : ℕ) (before : List Expr) (p : ℕ) (es : List Expr) (xs : List ℕ) (axs : List NormalAxiom) → Chain classes F k before p es xs axs → Chain classes G k before p es xs axs
  chain_more k before p [] xs axs h = absurd h
  chain_more k before p (e ∷ es) [] axs h = absurd h
  chain_more k before p (e ∷ []) (x ∷ xs) axs h = h
  chain_more k before p (e ∷ f ∷ es) (x ∷ xs) axs (q, rest, fresh, chain, is) = (q, rest, up q (chain_of k (e ∷ before)) fresh, chain_more k (e ∷ before) q (f ∷ es) xs rest chain, is)

  apart_more : (k : ℕ) (es : List Expr) (xs : List ℕ) (axs : List NormalAxiom) → Apart classes F k es xs axs → Apart classes G k es xs axs
  apart_more k [] xs axs h = h
  apart_more k (e ∷ []) xs axs h = h
  apart_more k (e ∷ f ∷ []) xs axs h = h
  apart_more k (e ∷ f ∷ g ∷ es) [] axs h = absurd h
  apart_more k (e ∷ f ∷ g ∷ es) (x ∷ xs) axs (p, rest, fresh, chain, is) = (p, rest, up p (chain_of k (e ∷ [])) fresh, chain_more k (e ∷ []) p (f ∷ g ∷ es) xs rest chain, is)

  uses_apart_more : (k : ℕ) (es : List Expr) (axs : List NormalAxiom) → RepresentsApart classes F k es axs → RepresentsApart classes G k es axs
  uses_apart_more k [] axs h = h
  uses_apart_more k (e ∷ []) axs h = h
  uses_apart_more k (e ∷ f ∷ es) axs (xs, a, b, u, h, is) = (xs, a, b, more_each classes F G up u, apart_more k (e ∷ f ∷ es) xs b h, is)

  gives_apart_more : (k : ℕ) (l : List Expr) (axs : List NormalAxiom) → GivesApart classes F k l axs → GivesApart classes G k l axs
  gives_apart_more k l axs h = (h.0, h.1, uses_apart_more k h.0 axs h.2)

  gives_more : (k : ℕ) (stated : Axiom) (axs : List NormalAxiom) → Gives classes F k stated axs → Gives classes G k stated axs
  gives_more k (SubClass c d) axs (x, y, a, b, u, v, is) = (x, y, a, b, more classes F G up u, more classes F G up v, is)
  gives_more k (SameClasses l) axs (xs, ys, a, b, u, v, is) = (xs, ys, a, b, more_each classes F G up u, more_each classes F G up v, is)
  gives_more k (Disjoint l) axs h = gives_apart_more k l axs h
  gives_more k (DisjointUnion c l) axs (xs, ys, a, b, d, below, u, v, h, is) = (xs, ys, a, b, d, below, more_each classes F G up u, more_each classes F G up v, gives_apart_more k l d h, is)
  gives_more k (SubRole r s) axs h = h
  gives_more k (SameRoles l) axs h = h
  gives_more k (Domain r c) axs (x, a, u, is) = (x, a, more classes F G up u, is)
  gives_more k (Range r c) axs (x, a, u, is) = (x, a, more classes F G up u, is)

  pub gives_from_more : (k : ℕ) (axioms : List Axiom) (axs : List NormalAxiom) → GivesFrom classes F k axioms axs → GivesFrom classes G k axioms axs
  gives_from_more k [] axs h = h
  gives_from_more k (s ∷ axioms) axs (a, b, g, h, is) = (a, b, gives_more k s a g, gives_from_more (suc k) axioms b h, is)

gives_end : (classes : ℕ) (F : ℕ → Label → Type 0) (l : List Axiom) (s : Axiom) (k n : ℕ) (a b : List NormalAxiom) → n ≡ k + length l → GivesFrom classes F k l a → Gives classes F n s b → GivesFrom classes F k (l ++ s ∷ []) (a ++ (b ++ []))
gives_end classes F [] s k n a b is h g = (b, [], subst (λ m. Gives classes F m s b) (omega (arith, is)) g, refl, ap (λ z. z ++ (b ++ [])) h)
gives_end classes F (x ∷ l) s k n a b is (a1, a2, g1, h, at) g = (a1, a2 ++ (b ++ []), g1, gives_end classes F l s (suc k) n a2 b (omega (arith, is)) h g, ap (λ z. z ++ (b ++ [])) at ∙ app_assoc a1 a2 (b ++ []))

module _ (classes : ℕ) where
  pub given_none : (m : Maker) → IsGiven classes m m (λ F axs. GivesFrom classes F 0 [] axs)
  given_none m = λ labels count. record {
    after = labels;
    grows = λ a k f. f;
    count = count;
    axs = [];
    made = refl;
    adds = adds_none m;
    paired = λ p. p;
    mentioned = mentioned_none m m [] [] (omega arith);
  }

  pub given_more : (old mid new : Maker) (axioms : List Axiom) (i : ℕ) (s : Axiom) → i < length axioms → s ≡ get_or axioms i s → IsGiven classes old mid (λ F axs. GivesFrom classes F 0 (take i axioms) axs) → IsGivenBy classes mid new s
      → IsGiven classes old new (λ F axs. GivesFrom classes F 0 (take (i + 1) axioms) axs)
  given_more old mid new axioms i s lt at f g = λ labels count.
      let a = f labels count in
      let n = length (take i axioms) in
      let b = g n a.after a.count in
      let F = IsFresh classes b.after in
      record {
        after = b.after;
        grows = λ m k h. b.grows m k (a.grows m k h);
        count = b.count;
        axs = a.axs ++ (b.axs ++ []);
        made = subst (λ l. GivesFrom classes F 0 l (a.axs ++ (b.axs ++ []))) (sym (take_more axioms i s lt ∙ ap (λ z. take i axioms ++ z ∷ []) (sym at)))
            (gives_end classes F (take i axioms) s 0 n a.axs b.axs (omega arith) (gives_from_more classes (IsFresh classes a.after) F b.grows 0 (take i axioms) a.axs a.made) b.made);
        adds = adds_then old mid new a.axs (b.axs ++ []) a.adds (adds_then mid new new b.axs [] b.adds (adds_none new));
        paired = λ p. b.paired (a.paired p);
        mentioned = mentioned_then old mid new [] [] a.axs (b.axs ++ []) a.mentioned (mentioned_then mid new new [] [] b.axs [] b.mentioned (mentioned_none new new [] [] (omega arith)));
      }

role_operands_first : (s : Axiom) (more : List Axiom) → role_operands (s ∷ more) ≡ role_operands (s ∷ []) + role_operands more
role_operands_first (SubClass c d) more = omega arith
role_operands_first (SameClasses l) more = omega arith
role_operands_first (Disjoint l) more = omega arith
role_operands_first (DisjointUnion c l) more = omega arith
role_operands_first (SubRole r s) more = omega arith
role_operands_first (SameRoles l) more = omega arith
role_operands_first (Domain r c) more = omega arith
role_operands_first (Range r c) more = omega arith

role_operands_end : (l : List Axiom) (s : Axiom) → role_operands (l ++ s ∷ []) ≡ role_operands l + role_operands (s ∷ [])
role_operands_end [] s = omega arith
role_operands_end (x ∷ l) s = let h = role_operands_end l s in let a = role_operands_first x (l ++ s ∷ []) in let b = role_operands_first x l in omega (arith, h, a, b)

module _ (old mid new : Maker) (axioms : List Axiom) (i : ℕ) (s : Axiom) (lt : i < length axioms) (at : s ≡ get_or axioms i s) where
  pub nodes_room : old.next + 6 * nodes axioms < 2 ^ 32 → mid.next ≤ old.next + 6 * nodes (take i axioms) → mid.next + 6 * nodes_in s < 2 ^ 32
  nodes_room few g = let n = subst (λ d. nodes (take i axioms) + nodes_in d ≤ nodes axioms) (sym at) (sum_by_more_le nodes_in axioms i s lt) in omega (arith, few, g, n)

  pub grown_more : IsGrown old mid (6 * nodes (take i axioms)) (12 * nodes (take i axioms) + role_operands (take i axioms)) → IsGrownOnce mid new s
      → IsGrown old new (6 * nodes (take (i + 1) axioms)) (12 * nodes (take (i + 1) axioms) + role_operands (take (i + 1) axioms))
  grown_more f g =
      let n = sum_by_more nodes_in axioms i s lt ∙ ap (λ d. nodes (take i axioms) + nodes_in d) (sym at) in
      let r = ap role_operands (take_more axioms i s lt ∙ ap (λ z. take i axioms ++ z ∷ []) (sym at)) ∙ role_operands_end (take i axioms) s in
      let f0 = f.0 in
      let f1 = f.1 in
      let g0 = g.0 in
      let g1 = g.1 in
      (omega (arith, f0, g0, n), omega (arith, f1, g1, n, r))
