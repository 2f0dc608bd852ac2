-- Small texts with their pieces, written by hand.
use Rattle.std.specs.Prelude.{ℕ, List, [], ◌∷◌, codes}
use Rattle.cd_lex.specs.declared.token.Kind.TheVariants.{Opening, Closing, Equals, Carets, Word, Short, Node, FullIri, Quoted, Lang}
use Rattle.cd_lex.specs.Tokens.{Piece, Blank, Comment, Lexeme, IsCut, IsBad}

-- the text is these pieces in turn
pub record IsCutInto (text : List ℕ) (pieces : List Piece) : Type 0 where
  pub cut : IsCut text pieces []

-- the text is these pieces in turn, and then the rest, which begins with a bad byte
pub record IsBadBehind (text : List ℕ) (pieces : List Piece) (rest : List ℕ) : Type 0 where
  pub cut : IsCut text pieces rest
  pub bad : IsBad rest

-- each of these texts has the pieces that were written down for it
pub record WorkedTokens : Type 0 where
  -- a short name ends its prefix with its first colon, and each part may have a dot
  pub short_names : IsCutInto (codes "a.b:c :d e:f:g.h")
      (Lexeme (Short (codes "a.b:") (codes "c")) (codes "a.b:c") ∷ Blank 32
      ∷ Lexeme (Short (codes ":") (codes "d")) (codes ":d") ∷ Blank 32
      ∷ Lexeme (Short (codes "e:") (codes "f:g.h")) (codes "e:f:g.h") ∷ [])
  -- an anonymous individual, and a prefix that only begins as one
  pub nodes : IsCutInto (codes "_:a __:a")
      (Lexeme (Node (codes "a")) (codes "_:a") ∷ Blank 32
      ∷ Lexeme (Short (codes "__:") (codes "a")) (codes "__:a") ∷ [])
  -- a string with an escaped quotation mark and an escaped backslash, and a language tag
  pub strings : IsCutInto (codes "\"a\\\"b\\\\\"@en-GB")
      (Lexeme Quoted (codes "\"a\\\"b\\\\\"") ∷ Lexeme Lang (codes "@en-GB") ∷ [])
  -- a string with a datatype, whose parts need no blank between them
  pub typed_strings : IsCutInto (codes "\"# <x>\"^^xsd:int")
      (Lexeme Quoted (codes "\"# <x>\"") ∷ Lexeme Carets (codes "^^")
      ∷ Lexeme (Short (codes "xsd:") (codes "int")) (codes "xsd:int") ∷ [])
  -- a `#` within an IRI is a byte of it, and one behind it begins a comment, which ends with its line
  pub comments : IsCutInto (codes "<x#a>#b <x>\nc")
      (Lexeme (FullIri (codes "x#a")) (codes "<x#a>") ∷ Comment (codes "b <x>") ∷ Blank 10
      ∷ Lexeme (Word (codes "c")) (codes "c") ∷ [])
  -- marks stand for themselves
  pub marks : IsCutInto (codes "Prefix(p:=<x>)")
      (Lexeme (Word (codes "Prefix")) (codes "Prefix") ∷ Lexeme Opening (codes "(")
      ∷ Lexeme (Short (codes "p:") []) (codes "p:") ∷ Lexeme Equals (codes "=")
      ∷ Lexeme (FullIri (codes "x")) (codes "<x>") ∷ Lexeme Closing (codes ")") ∷ [])
  -- no piece is a single caret
  pub bad_caret : IsBadBehind (codes "a ^b") (Lexeme (Word (codes "a")) (codes "a") ∷ Blank 32
      ∷ []) (codes "^b")
  -- no IRI has a blank
  pub bad_iri : IsBadBehind (codes "a<x b>") (Lexeme (Word (codes "a")) (codes "a") ∷ [])
      (codes "<x b>")
  -- a string ends with its quotation mark
  pub bad_string : IsBadBehind (codes "(\"a)") (Lexeme Opening (codes "(") ∷ []) (codes "\"a)")
  -- a backslash escapes a quotation mark or a backslash
  pub bad_escape : IsBadBehind (codes "\"a\\n\"") [] (codes "\"a\\n\"")
