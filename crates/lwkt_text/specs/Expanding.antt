-- Constants, members of names, and sentences that stand for others (own, version 3): what sentences stand for, before anything else is read.
use Rattle.std.specs.Prelude.{ℕ, zero, suc, ◌+◌, ◌-◌, ◌==◌, ◌&&◌, ◌||◌, nat_lt, nat_le, List, [], ◌∷◌, ◌++◌, length, map, replicate, take, slice_get, codes, decimal, Bool, if◌then◌else◌, Option, Some, None, option_map, option_and_then, unwrap_or, Result, Ok, Err}
use Rattle.lwkt_code.specs.Values.{value_of}
use Rattle.lwkt_text.specs.declared.expansions.FoundNumber.{FoundNumber}
use Rattle.lwkt_text.specs.declared.expansions.FoundWord.{FoundWord}
use Rattle.lwkt_text.specs.declared.expansions.Range.{Range}
use Rattle.lwkt_text.specs.declared.expansions.Spread.{Spread}
use Rattle.lwkt_text.specs.declared.tables.Names.{Names}
use Rattle.lwkt_text.specs.declared.words.Sentence.{Sentence}
use Rattle.lwkt_text.specs.declared.words.Word.{Word}
use Rattle.lwkt_text.specs.declared.wrongs.Wanted.TheVariants as wanted
use Rattle.lwkt_text.specs.declared.wrongs.What.{What}
use Rattle.lwkt_text.specs.declared.wrongs.What.TheVariants as whats
use Rattle.lwkt_text.specs.declared.wrongs.Wrong.{Wrong}
use Rattle.lwkt_text.specs.Listing.{new_name, no_listing, all_listed}
use Rattle.lwkt_text.specs.Looking.{text_at, is_at, demand_at, ends_at, wrong_at, is_name}
use Rattle.lwkt_text.specs.Naming.{position}
use Rattle.lwkt_text.specs.Outcome.{◌>>=◌, ◌>>◌}
use Rattle.lwkt_text.specs.Phrasing.{expr_at}
use Rattle.lwkt_text.specs.Scanning.{sentences_of}

-- the value of a constant's name
abbrev pub value_named : Spread → List ℕ → Option ℕ
value_named s text = option_and_then (λ k. slice_get s.values k) (position s.names text)

-- a word; where it names a constant, the number that this is
abbrev pub valued : Spread → Word → Word
valued s w = record w { text = unwrap_or (option_map decimal (value_named s w.text)) w.text }

-- an expression of numbers from word i on: what it comes to, and the place behind it
abbrev pub constant_at : List Word → ℕ → Result FoundNumber Wrong
constant_at ws i = expr_at [] ws 5 i >>= λ f. Ok (record { value = value_of f.expr (replicate 8 0); end = f.end })

-- the word of a member, as `fork[2]`, that goes from one word to another
abbrev pub member_word : Word → ℕ → Word → Word
member_word name value last = record { at = name.at; end = last.end; text = name.text ++ codes "[" ++ decimal value ++ codes "]" }

-- the member whose index comes to this number, if a bracket follows
abbrev pub member_closed : List Word → ℕ → Word → Result FoundNumber Wrong → Option FoundWord
member_closed ws i name (Err wrong) = None
member_closed ws i name (Ok f) = if is_at ws f.end (codes "]") then option_map (λ last. record { word = member_word name f.value last; end = f.end + 1 }) (slice_get ws f.end) else None

-- `NAME [ EXPR ]` from word i on, of numbers alone, as one word
abbrev pub member_at : List Word → ℕ → Word → Option FoundWord
member_at ws i name = if is_name name.text && is_at ws (i + 1) (codes "[") then member_closed ws i name (constant_at ws (i + 2)) else None

-- word i, or the member that it begins
abbrev pub found_at : List Word → ℕ → Word → FoundWord
found_at ws i w = unwrap_or (member_at ws i w) (record { word = w; end = i + 1 })

-- words behind a word, if it is there
abbrev pub where_there : Option Word → (Word → List Word) → List Word
where_there None f = []
where_there (Some w) f = f w

-- words from word i on, of which those of a member are one; as many as are left in `rest`
abbrev pub members_from : List Word → ℕ → List Word → List Word
members_from ws i [] = []
members_from ws i (x ∷ rest) = where_there (slice_get ws i) (λ w. (found_at ws i w).word ∷ members_from ws (found_at ws i w).end rest)

-- words with their members; those of a sentence that is too long stay as they are
abbrev pub with_members : List Word → List Word
with_members ws = if nat_le (length ws) 1000 then members_from ws 0 ws else ws

-- a sentence with its numbers put in
abbrev pub filled : Spread → List Word → List Word
filled s ws = with_members (map (valued s) ws)

-- `const NAME = EXPR`
unfoldable pub const_of : Spread → List Word → Result ℕ Wrong
const_of s ws = do
  demand_at ws 1000 whats.Long (nat_le (length ws) 1000)
  let numbers = map (valued s) ws
  new_name s.names ws
  demand_at ws 2 (whats.Word wanted.Equals) (is_at ws 2 (codes "="))
  f ← constant_at numbers 3
  ends_at ws f.end
  Ok f.value

-- `for NAME in A..B`, at most to 256
unfoldable pub range_of : Spread → List Word → Result Range Wrong
range_of s ws = do
  demand_at ws 1000 whats.Long (nat_le (length ws) 1000)
  let numbers = map (valued s) ws
  new_name s.names ws
  demand_at ws 2 (whats.Word wanted.In) (is_at ws 2 (codes "in"))
  from ← constant_at numbers 3
  demand_at ws from.end (whats.Word wanted.Point) (is_at ws from.end (codes "."))
  demand_at ws (from.end + 1) (whats.Word wanted.Point) (is_at ws (from.end + 1) (codes "."))
  to ← constant_at numbers (from.end + 2)
  ends_at ws to.end
  demand_at ws (from.end + 2) (whats.Number 0 256) (nat_le to.value 256)
  Ok (record { from = from.value; to = to.value })

-- a sentence that holds others, and the end of one
abbrev pub begins : List Word → Bool
begins ws = is_at ws 0 (codes "for") || (is_at ws 0 (codes "if") || (is_at ws 0 (codes "while") || (is_at ws 0 (codes "times") || is_at ws 0 (codes "loop"))))

abbrev pub is_end : List Word → Bool
is_end ws = is_at ws 0 (codes "end")

-- how many sentences are open behind a sentence
abbrev pub level : List Word → ℕ → ℕ
level ws depth = if begins ws then depth + 1 else (if is_end ws then depth - 1 else depth)

-- how many sentences stand before the end of what holds them, if that is there, behind so many
abbrev pub inside : ℕ → ℕ → List Sentence → Option ℕ
inside at depth [] = None
inside at depth (s ∷ ss) = if depth == 0 && is_end s.words then Some at else inside (at + 1) (level s.words depth) ss

abbrev pub blamed : Wrong → Spread → Spread
blamed wrong s = record s { faults = s.faults ++ wrong ∷ [] }

-- a name with a value
abbrev pub with_constant : List ℕ → ℕ → Spread → Spread
with_constant name value s = record s { names = s.names ++ name ∷ []; values = s.values ++ value ∷ [] }

-- a round of a `for` whose name has this value; and after it only so many names and rounds are left
abbrev pub with_round : List ℕ → ℕ → Spread → Spread
with_round name value s = record s { names = s.names ++ name ∷ []; values = s.values ++ value ∷ []; rounds = s.rounds ++ value ∷ [] }

abbrev pub with_first : ℕ → ℕ → Spread → Spread
with_first count depth s = record s { names = take count s.names; values = take count s.values; rounds = take depth s.rounds }

-- whether so many sentences are said that no `for` goes on
abbrev pub is_full : Spread → Bool
is_full s = nat_le 65536 (length s.sentences)

abbrev pub put_sentence : List Word → Spread → Spread
put_sentence ws s = record s { sentences = s.sentences ++ (record { words = filled s ws; rounds = s.rounds }) ∷ [] }

abbrev pub const_put : Result ℕ Wrong → List Word → Spread → Spread
const_put (Ok value) ws s = with_constant (text_at ws 1) value s
const_put (Err wrong) ws s = blamed wrong s

-- a sentence that is no `for`
abbrev pub plain_put : List Word → Spread → Spread
plain_put ws s = if is_at ws 0 (codes "const") then const_put (const_of s ws) ws s else put_sentence ws s

-- what sentences say for so many values of a name, one after the other; nothing more where there is no room
abbrev pub rounds : (Spread → Spread) → ℕ → ℕ → List ℕ → ℕ → ℕ → Spread → Spread
rounds inner count depth name zero value s = s
rounds inner count depth name (suc n) value s = if is_full s then s else rounds inner count depth name n (value + 1) (with_first count depth (inner (with_round name value s)))

-- a `for` with these sentences in it; a full text is told at its `for`
abbrev pub ranged : (Spread → Spread) → Result Range Wrong → List Word → Spread → Spread
ranged inner (Err wrong) ws s = blamed wrong s
ranged inner (Ok r) ws s = let t = rounds inner (length s.names) (length s.rounds) (text_at ws 1) (r.to - r.from) r.from s in if is_full t then blamed (wrong_at ws 0 whats.Crowd) t else t

-- how many sentences behind a `for` are its own, with its end
abbrev pub own : Option ℕ → ℕ
own None = 0
own (Some n) = n + 1

-- a `for`, before these sentences
abbrev pub for_put : ℕ → (List Sentence → Spread → Spread) → List Word → List Sentence → Option ℕ → Spread → Spread
for_put deep inner ws ss None s = blamed (wrong_at ws 0 whats.Unended) s
for_put deep inner ws ss (Some n) s = if deep == 0 then blamed (wrong_at ws 0 whats.Deep) s else ranged (inner (take n ss)) (range_of s ws) ws s

-- sentences, of which some are left out first
abbrev pub spread_with : ℕ → (List Sentence → Spread → Spread) → ℕ → List Sentence → Spread → Spread
spread_with deep inner skip [] s = s
spread_with deep inner (suc k) (x ∷ ss) s = spread_with deep inner k ss s
spread_with deep inner zero (x ∷ ss) s =
    if is_at x.words 0 (codes "for") then spread_with deep inner (own (inside 0 0 ss)) ss (for_put deep inner x.words ss (inside 0 0 ss) s)
    else spread_with deep inner 0 ss (plain_put x.words s)

-- what sentences stand for, with `for` in one another so many times; what stands deeper is told at its `for`, and says nothing
unfoldable pub spread : ℕ → List Sentence → Spread → Spread
spread zero ss s = spread_with zero (λ body t. t) 0 ss s
spread (suc deep) ss s = spread_with (suc deep) (spread deep) 0 ss s

abbrev pub no_spread : Spread
no_spread = record { names = []; values = []; rounds = []; sentences = []; faults = [] }

-- what the sentences of a text stand for: a `for` stands in at most one other
abbrev pub spread_of : List Sentence → Spread
spread_of ss = spread 2 ss no_spread

-- a `for` before sentences, with others in it so many times
abbrev pub spread_for : ℕ → List Word → List Sentence → Spread → Spread
spread_for zero ws ss s = for_put 0 (λ body t. t) ws ss (inside 0 0 ss) s
spread_for (suc deep) ws ss s = for_put (suc deep) (spread deep) ws ss (inside 0 0 ss) s

-- the same behind some that are left out
abbrev pub spread_rest : ℕ → ℕ → List Sentence → Spread → Spread
spread_rest zero skip ss s = spread_with zero (λ body t. t) skip ss s
spread_rest (suc deep) skip ss s = spread_with (suc deep) (spread deep) skip ss s

-- the names that a text gives
abbrev pub names_of : List ℕ → Names
names_of bytes = (all_listed (spread_of (sentences_of bytes)).sentences no_listing).names
