-- A text that is a document has no fault: no front of a document goes on past one.
use Rattle.std.proofs.Common.{◌≡◌, ℕ, List, [], ◌∷◌, ◌++◌, refl, sym, ap, subst, ◌∙◌, append-nil, append_assoc}
use Rattle.cd_lex.specs.declared.token.Kind.{Kind}
use Rattle.cd_lex.specs.Tokens.{Piece, Lexeme, BeginsWith, IsCut, kinds}
use Rattle.cd_lex.proofs.CutLaws.{begins_unique, cut_front, end_is_stuck}
use Rattle.cd_syntax.specs.declared.known.Known.{Known}
use Rattle.cd_syntax.specs.declared.refusal.Refusal.{Refusal}
use Rattle.cd_syntax.specs.Fault.{Next, Token, End, Bad, IsNext, IsFront, GoesOn}
use Rattle.cd_syntax.specs.Grammar.{Text, Leads, IsWhole, IsDocument, begun, nesting}
use Rattle.cd_syntax.specs.Refusal.{IsFaulty}
use Rattle.cd_syntax.proofs.Cuts.{kinds-append}

-- ---- fronts

-- what begins a front is one
front_of : (front more : List Kind) → IsFront nesting (front ++ more) → IsFront nesting front
front_of front more (rest, known, leads) =
    (more ++ rest, known, subst (λ (all : List Kind). Leads nesting begun (Text ∷ []) all known []) (append_assoc front more rest) leads)

-- a token behind the pieces goes on where pieces with that token do
token_goes : (p : List Piece) (kind : Kind) (spelled : List ℕ) (more : List Piece) → IsFront nesting (kinds (p ++ Lexeme kind spelled ∷ more))
    → GoesOn nesting (kinds p) (Token kind)
token_goes p kind spelled more is =
    front_of (kinds p ++ kind ∷ []) (kinds more)
    (subst (IsFront nesting) (kinds-append p (Lexeme kind spelled ∷ more) ∙ sym (append_assoc (kinds p) (kind ∷ []) (kinds more))) is)

-- no front has pieces behind a fault
pub not_past : (p later : List Piece) (rest s : List ℕ) (next : Next) → IsNext rest next → (GoesOn nesting (kinds p) next → ⊥) → IsCut rest later s
    → IsFront nesting (kinds (p ++ later)) → later ≡ []
not_past p [] rest s next is none cut front = refl
not_past p (a ∷ more) rest s (Token kind) (spelled, behind, token) none (behind', first, cut) front =
    let same = (begins_unique rest a (Lexeme kind spelled) behind' behind first token).0 in
    absurd (none (token_goes p kind spelled more (subst (λ (x : Piece). IsFront nesting (kinds (p ++ x ∷ more))) same front)))
not_past p (a ∷ more) rest s End is none (behind', first, cut) front =
    absurd (end_is_stuck a behind' (subst (λ (xs : List ℕ). BeginsWith xs a behind') is first))
not_past p (a ∷ more) rest s Bad bad none (behind', first, cut) front = absurd (bad.1 a behind' first)

-- ---- documents without a fault

-- at the end of a document it ends
no_next : (front : List Kind) (known : Known) (rest : List ℕ) (next : Next) → rest ≡ [] → IsNext rest next → IsWhole front known → GoesOn nesting front next
no_next front known rest (Token kind) none (spelled, behind, token) whole =
    absurd (end_is_stuck (Lexeme kind spelled) behind (subst (λ (xs : List ℕ). BeginsWith xs (Lexeme kind spelled) behind) none token))
no_next front known rest End none is whole = (known, whole)
no_next front known rest Bad none bad whole = bad.0 none

pub no_fault : (bytes : List ℕ) (known : Known) (r : Refusal) → IsDocument bytes known → IsFaulty bytes r → ⊥
no_fault bytes known r (all, cut, whole) (p, rest, next, c, f) =
    let (later, is, onwards) = cut_front bytes rest [] p all f.cut cut end_is_stuck in
    let moved : IsWhole (kinds (p ++ later)) known = subst (λ (ps : List Piece). IsWhole (kinds ps) known) is whole in
    let front : IsFront nesting (kinds (p ++ later)) =
    ([], known, subst (λ (ks : List Kind). IsWhole ks known) (sym (append-nil (kinds (p ++ later)))) moved) in
    let none = not_past p later rest [] next f.next_is f.fault.none onwards front in
    let ended : rest ≡ [] = subst (λ (ps : List Piece). IsCut rest ps []) none onwards in
    let whole_before : IsWhole (kinds p) known =
    subst (λ (ps : List Piece). IsWhole (kinds ps) known) (ap (λ (ps : List Piece). p ++ ps) none ∙ append-nil p) moved in
    f.fault.none (no_next (kinds p) known rest next ended f.next_is whole_before)
