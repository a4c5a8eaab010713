-- The lexemes of a value of JSON, and the value that they are read as.
use Rattle.std.proofs.Common.{◌≡◌, ℕ, ◌≤◌, List, [], ◌∷◌, ◌++◌, Bool, true, false, cond, Option, Some, refl, sym, ap, ◌∙◌, append_assoc}
use Rattle.std.specs.Prelude.{option_and_then}
use Rattle.json.specs.Token.{Token}
use Rattle.json.specs.Lex.{Lexeme, token, comma, colon, between, lex, Place, fresh, after_value, after_comma, begins_colon, may_begin, punctuate}
use Rattle.json.specs.Json as json
use Rattle.json.specs.Tree.{json_tokens, items_tokens, members_tokens, depth}
use Rattle.json.proofs.Printed.Trees.{value-json_tokens}
use Rattle.serde_json.specs.Data.{Data}
use Rattle.serde_json.specs.Read.{of_json, max_depth, read}

-- a comma before lexemes, where something stands before them
abbrev pub comma_onto : Bool → List Lexeme → List Lexeme
comma_onto true ls = comma ∷ ls
comma_onto false ls = ls

-- the lexemes of a value, before others
abbrev mutual
  pub value_onto : json.Json → List Lexeme → List Lexeme
  value_onto json.null ls = token Token.null ∷ ls
  value_onto (json.boolean b) ls = token (Token.boolean b) ∷ ls
  value_onto (json.number s) ls = token (Token.number s) ∷ ls
  value_onto (json.string s) ls = token (Token.string s) ∷ ls
  value_onto (json.array js) ls = token Token.begin_array ∷ items_onto false js ls
  value_onto (json.object ms) ls = token Token.begin_object ∷ members_onto false ms ls

  -- with the closing bracket
  pub items_onto : Bool → json.Items → List Lexeme → List Lexeme
  items_onto later json.no_items ls = token Token.end_array ∷ ls
  items_onto later (json.item j js) ls = comma_onto later (value_onto j (items_onto true js ls))

  pub members_onto : Bool → json.Members → List Lexeme → List Lexeme
  members_onto later json.no_members ls = token Token.end_object ∷ ls
  members_onto later (json.member k j ms) ls = comma_onto later (token (Token.string k) ∷ colon ∷ value_onto j (members_onto true ms ls))

no_colon_items : (js : json.Items) (ls : List Lexeme) → begins_colon (items_onto true js ls) ≡ false
no_colon_items json.no_items ls = refl
no_colon_items (json.item j js) ls = refl

no_colon_members : (ms : json.Members) (ls : List Lexeme) → begins_colon (members_onto true ms ls) ≡ false
no_colon_members json.no_members ls = refl
no_colon_members (json.member k j ms) ls = refl

-- the place where the next item or member is looked for
abbrev place : Bool → Place
place later = cond later after_value fresh

join : (a b c : List Token) (whole rest : List Token) → whole ≡ a ++ rest → rest ≡ b ++ c → whole ≡ (a ++ b) ++ c
join a b c whole rest first next = first ∙ ap (λ (l : List Token). a ++ l) next ∙ sym (append_assoc a b c)

-- the lexemes of a value are its tokens
mutual
  unfolding punctuate

  value_read : (j : json.Json) (p : Place) (ls : List Lexeme) → may_begin p ≡ true → begins_colon ls ≡ false → punctuate p (value_onto j ls) ≡ json_tokens j ++ punctuate after_value ls
  value_read json.null p ls may other = rw may refl
  value_read (json.boolean b) p ls may other = rw may refl
  value_read (json.number s) p ls may other = rw may refl
  value_read (json.string s) p ls may other = rw (other, may) refl
  value_read (json.array js) p ls may other = rw may (ap (λ (l : List Token). Token.begin_array ∷ l) (items_read false js ls))
  value_read (json.object ms) p ls may other = rw may (ap (λ (l : List Token). Token.begin_object ∷ l) (members_read false ms ls))

  items_read : (later : Bool) (js : json.Items) (ls : List Lexeme) → punctuate (place later) (items_onto later js ls) ≡ items_tokens js ++ punctuate after_value ls
  items_read true json.no_items ls = refl
  items_read false json.no_items ls = refl
  items_read true (json.item j js) ls =
      join (json_tokens j) (items_tokens js) (punctuate after_value ls) _ (punctuate after_value (items_onto true js ls)) (value_read j after_comma (items_onto true js ls) refl (no_colon_items js ls)) (items_read true js ls)
  items_read false (json.item j js) ls =
      join (json_tokens j) (items_tokens js) (punctuate after_value ls) _ (punctuate after_value (items_onto true js ls)) (value_read j fresh (items_onto true js ls) refl (no_colon_items js ls)) (items_read true js ls)

  members_read : (later : Bool) (ms : json.Members) (ls : List Lexeme) → punctuate (place later) (members_onto later ms ls) ≡ members_tokens ms ++ punctuate after_value ls
  members_read true json.no_members ls = refl
  members_read false json.no_members ls = refl
  members_read true (json.member k j ms) ls =
      ap (λ (l : List Token). Token.key k ∷ l)
      (join (json_tokens j) (members_tokens ms) (punctuate after_value ls) _ (punctuate after_value (members_onto true ms ls)) (value_read j fresh (members_onto true ms ls) refl (no_colon_members ms ls)) (members_read true ms ls))
  members_read false (json.member k j ms) ls =
      ap (λ (l : List Token). Token.key k ∷ l)
      (join (json_tokens j) (members_tokens ms) (punctuate after_value ls) _ (punctuate after_value (members_onto true ms ls)) (value_read j fresh (members_onto true ms ls) refl (no_colon_members ms ls)) (members_read true ms ls))

-- what is read of some tokens
abbrev from_tokens : List Token → Option Data
from_tokens ts = option_and_then of_json (option_and_then (λ p. json.if_last p.0 p.1) (json.value max_depth ts))

-- a text with the lexemes of a value, and nothing behind it, is this value
pub text_is : (text : List ℕ) (j : json.Json) (d : Data) → lex between text ≡ value_onto j [] → depth j ≤ max_depth → of_json j ≡ Some d → read text ≡ Some d
unfolding punctuate
text_is text j d lexed shallow is =
    ap (λ (ls : List Lexeme). from_tokens (punctuate fresh ls)) lexed ∙ ap from_tokens (value_read j fresh [] refl refl)
    ∙ ap (λ (o : Option (json.Json × List Token)). option_and_then of_json (option_and_then (λ p. json.if_last p.0 p.1) o)) (value-json_tokens j max_depth [] shallow) ∙ is
