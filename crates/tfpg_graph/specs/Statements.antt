-- What a line of a graph's text says by its words alone: no name is looked up, and no number is read.
use Rattle.std.specs.Prelude.{◌≡◌, ◌≢◌, ◌≤◌, ℕ, All, Contains, List, [], ◌∷◌, length, Bool, true, false, ◌&&◌, ◌==◌, nat_le, if◌then◌else◌, Option, Some, None, IfSome, option_map, filter_map, codes, bytes_eq}
use Rattle.std.specs.Bool.{then_some}
use Rattle.tfpg_base.specs.Words.{has_empty_word, words_of, line_of}
use Rattle.tfpg_base.specs.Lines.{is_too_long}
use Rattle.tfpg_base.specs.declared.limits.TheConstants.{LONGEST_LINE}
use Rattle.tfpg_graph.specs.declared.version.Version.{Version}
use Rattle.tfpg_graph.specs.declared.version.Version.TheVariants.{One, Two}

-- the words for a lag: for its least and for its greatest
pub record LagWords : Type 0 where
  pub least : List ℕ
  pub most : List ℕ

-- the words that say what a node is, with the words for its numbers
pub data NodeWords : Type 0 where
  FailureWords : (rarity : List ℕ) → NodeWords
  OrWords : (lag : Option LagWords) → NodeWords
  AndWords : (lag : Option LagWords) → NodeWords

-- what a line after the header says
pub data Statement : Type 0 where
  DeclaresMode : (name : List ℕ) → Statement
  DeclaresNode : (name : List ℕ) (words : NodeWords) → Statement
  DeclaresEdge : (source target tmin tmax modes : List ℕ) → Statement
  Ends : Statement

-- the words that a lag is written with after `watch`: in version 1 the greatest alone
abbrev pub words_of_lag : Version → LagWords → List (List ℕ)
words_of_lag One lag = lag.most ∷ []
words_of_lag Two lag = lag.least ∷ lag.most ∷ []

-- the words that a discrepancy's line is written with after its name
abbrev pub words_of_watch : Version → Option LagWords → List (List ℕ)
words_of_watch version None = codes "hidden" ∷ []
words_of_watch version (Some lag) = codes "watch" ∷ words_of_lag version lag

-- the words that a node's line is written with
abbrev pub words_of_node : Version → List ℕ → NodeWords → List (List ℕ)
words_of_node version name (FailureWords rarity) = codes "failure" ∷ name ∷ rarity ∷ []
words_of_node version name (OrWords lag) = codes "or" ∷ name ∷ words_of_watch version lag
words_of_node version name (AndWords lag) = codes "and" ∷ name ∷ words_of_watch version lag

-- the words that a statement is written with
abbrev pub words_of_statement : Version → Statement → List (List ℕ)
words_of_statement version (DeclaresMode name) = codes "mode" ∷ name ∷ []
words_of_statement version (DeclaresNode name words) = words_of_node version name words
words_of_statement version (DeclaresEdge source target tmin tmax modes) = codes "edge" ∷ source ∷ target ∷ tmin ∷ tmax ∷ modes ∷ []
words_of_statement version Ends = codes "end" ∷ []

-- the words for the lag in what is said of a node, where there are any
abbrev pub lag_words_of : NodeWords → Option LagWords
lag_words_of (FailureWords rarity) = None
lag_words_of (OrWords lag) = lag
lag_words_of (AndWords lag) = lag

-- A version can say a lag: version 1 has no word for the least, which is `0` there.
abbrev pub CanSayLag : Version → LagWords → Type 0
CanSayLag One lag = lag.least ≡ codes "0"
CanSayLag Two lag = Unit {0}

-- A version can say a statement: it can say the lag.
abbrev pub CanSay : Version → Statement → Type 0
CanSay version (DeclaresNode name words) = IfSome (lag_words_of words) (CanSayLag version)
CanSay version _ = Unit {0}

-- a word that a line can have: it has a byte, and no space
abbrev pub IsLineWord : List ℕ → Type 0
IsLineWord word = (word ≢ []) × (Contains word 32 → ⊥)

-- A line of a text of this version says a statement: it is the words of the statement with a space between each two, is not
-- too long, and the version can say the statement.
pub record SaysStatement (version : Version) (line : List ℕ) (said : Statement) : Type 0 where
  pub words : line ≡ line_of (words_of_statement version said)
  pub each : All IsLineWord (words_of_statement version said)
  pub short : length line ≤ LONGEST_LINE
  pub sayable : CanSay version said

-- What a discrepancy's last words say: `hidden`, or `watch` and the words for its lag. In version 1 that is the greatest alone, and
-- the least is 0.
abbrev pub lag_in : Version → List (List ℕ) → Option (Option LagWords)
lag_in version (state ∷ []) = then_some (bytes_eq state (codes "hidden")) None
lag_in One (state ∷ most ∷ []) = then_some (bytes_eq state (codes "watch")) (Some (record { least = codes "0"; most = most }))
lag_in Two (state ∷ least ∷ most ∷ []) = then_some (bytes_eq state (codes "watch")) (Some (record { least = least; most = most }))
lag_in _ _ = None

-- what a failure mode's last words say: its rarity alone
abbrev pub rarity_in : List (List ℕ) → Option NodeWords
rarity_in (rarity ∷ []) = Some (FailureWords rarity)
rarity_in _ = None

-- what a node is, by the keyword of its line and the words after its name
abbrev pub node_words_in : Version → List ℕ → List (List ℕ) → Option NodeWords
node_words_in version keyword words =
    if bytes_eq keyword (codes "failure") then rarity_in words
    else (if bytes_eq keyword (codes "or") then option_map OrWords (lag_in version words)
    else (if bytes_eq keyword (codes "and") then option_map AndWords (lag_in version words) else None))

-- what the words of a line after the header say, where they have one of the shapes: of the end, of a mode, of an edge or of a node
abbrev pub statement_in : Version → List (List ℕ) → Option Statement
statement_in version (keyword ∷ []) = then_some (bytes_eq keyword (codes "end")) Ends
statement_in version (keyword ∷ name ∷ []) = then_some (bytes_eq keyword (codes "mode")) (DeclaresMode name)
statement_in version (keyword ∷ source ∷ target ∷ tmin ∷ tmax ∷ modes ∷ []) =
    then_some (bytes_eq keyword (codes "edge")) (DeclaresEdge source target tmin tmax modes)
statement_in version (keyword ∷ name ∷ others) = option_map (DeclaresNode name) (node_words_in version keyword others)
statement_in _ _ = None

-- What a line of a text of this version says: it is not too long, has no empty word, and has one of the shapes.
abbrev pub statement_of : Version → List ℕ → Option Statement
statement_of version line =
    if is_too_long line then None
    else (if has_empty_word (words_of line) then None else statement_in version (words_of line))

-- what lines say, in order; the header, a line that is skipped, and one that has no shape say nothing
abbrev pub statements_of : Version → List (List ℕ) → List Statement
statements_of version lines = filter_map (statement_of version) lines

-- an empty line, or one that begins with `#`
abbrev pub is_empty_or_comment : List ℕ → Bool
is_empty_or_comment [] = true
is_empty_or_comment (first ∷ others) = first == 35

-- A line after the header that is empty or begins with `#` is skipped, unless it is too long.
abbrev pub is_skipped : List ℕ → Bool
is_skipped line = is_empty_or_comment line && nat_le (length line) LONGEST_LINE

-- it declares a mode
abbrev pub declares_mode : Statement → Bool
declares_mode (DeclaresMode name) = true
declares_mode _ = false

-- it declares a node
abbrev pub declares_node : Statement → Bool
declares_node (DeclaresNode name words) = true
declares_node _ = false

-- it declares an edge
abbrev pub declares_edge : Statement → Bool
declares_edge (DeclaresEdge source target tmin tmax modes) = true
declares_edge _ = false

-- it ends the text
abbrev pub ends_text : Statement → Bool
ends_text Ends = true
ends_text _ = false
