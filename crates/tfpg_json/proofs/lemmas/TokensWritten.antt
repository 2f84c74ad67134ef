-- Tokens that are written call by call.
use Rattle.std.proofs.Common.{◌≡◌, ℕ, List, [], ◌∷◌, ◌++◌, Option, Some, None, OnOk, codes, filter, filter_map, refl, sym, ap, ◌∙◌, append_assoc, append-nil}
use Rattle.std.specs.Prelude.{Result, Ok, Err}
use Rattle.std.specs.List.{cons_option}
use Rattle.std.proofs.lemmas.Grind.{flat_map-append}
use Rattle.json.specs.Token.{Token, begin_array, end_array, begin_object, end_object, key}
use Rattle.json.specs.Tree.{items_tokens}
use Rattle.serde_json.specs.Data.{Data, array}
use Rattle.serde_json.specs.View.{items_of}
use Rattle.serde_json.specs.Written.{items_outline, compact_text}
use Rattle.serde_json.proofs.Texts.{print-outline}
use Rattle.json.specs.Print.{print}
use Rattle.json.specs.Written.{Written}
use Rattle.tfpg_base.specs.Append.{Appends}
use Rattle.tfpg_base.specs.declared.no_memory.NoMemory.{NoMemory}
use Rattle.tfpg_evidence.specs.Findings.{findings_at, is_rejected_now}
use Rattle.tfpg_evidence.specs.RoundOf.{is_open}
use Rattle.tfpg_evidence.specs.declared.finding.Finding.{Finding}
use Rattle.tfpg_evidence.specs.declared.round.Round.{Round}
use Rattle.tfpg_graph.specs.Graph.{Tfpg}
use Rattle.tfpg_json.specs.GraphData.{whole}
use Rattle.tfpg_json.specs.RoundData.{counts_data, ranked_data, round_data, sets_data}
use Rattle.tfpg_json.specs.inside.Tokens.{data_tokens, each_tokens, found_tokens, member_tokens}

-- what is written first, and then the rest
pub written_first : (old mid new a b : List Token) → mid ≡ old ++ a → new ≡ mid ++ b → new ≡ old ++ (a ++ b)
written_first old mid new a b first rest = rest ∙ ap (λ ts. ts ++ b) first ∙ append_assoc old a b

-- the same, where a call in last place writes the rest
pub written_last : {E : Type 0} (result : Result (Unit {0}) E) (old mid new a b : List Token) → mid ≡ old ++ a → OnOk result (new ≡ mid ++ b) → OnOk result (new ≡ old ++ (a ++ b))
written_last (Ok done) old mid new a b first rest = written_first old mid new a b first rest
written_last (Err short) old mid new a b first rest = tt

-- one item more
pub item_written : (old mid new : List Token) (items more : List Data) (item : Data) → more ≡ items ++ item ∷ [] → mid ≡ old ++ each_tokens items
    → new ≡ mid ++ data_tokens item → new ≡ old ++ each_tokens more
item_written old mid new items more item is are next =
    written_first old mid new (each_tokens items) (data_tokens item) are next
    ∙ ap (λ ts. old ++ ts)
    (sym (ap each_tokens is ∙ flat_map-append data_tokens items (item ∷ []) ∙ ap (λ ts. each_tokens items ++ ts) (append-nil (data_tokens item))))

-- one item more, where the tokens of the others are left
pub item_left : (mid new all : List Token) (items : List Data) (item : Data) (others : List Data) → items ≡ item ∷ others → mid ++ each_tokens items ≡ all
    → new ≡ mid ++ data_tokens item → new ++ each_tokens others ≡ all
item_left mid new all items item others splits are next =
    ap (λ ts. ts ++ each_tokens others) next ∙ append_assoc mid (data_tokens item) (each_tokens others)
    ∙ ap (λ ds. mid ++ each_tokens ds) (sym splits) ∙ are

-- no item is left
pub none_left : (new all : List Token) (items : List Data) → items ≡ [] → new ++ each_tokens items ≡ all → new ≡ all
none_left new all items none are = sym (append-nil new) ∙ ap (λ ds. new ++ each_tokens ds) (sym none) ∙ are

-- one item more, if it is there
pub found_written : (old mid new : List Token) (items more : List Data) (found : Option Data) → more ≡ items ++ cons_option found [] → mid ≡ old ++ each_tokens items
    → new ≡ mid ++ found_tokens found → new ≡ old ++ each_tokens more
found_written old mid new items more None is are next =
    next ∙ append-nil mid ∙ are ∙ ap (λ ds. old ++ each_tokens ds) (sym (is ∙ append-nil items))
found_written old mid new items more (Some item) is are next = item_written old mid new items more item is are next

-- the tokens of a list after its bracket
items_closed : (items : List Data) → items_tokens (items_outline (items_of items)) ≡ each_tokens items ++ end_array ∷ []
items_closed [] = refl
items_closed (d ∷ ds) = ap (λ ts. data_tokens d ++ ts) (items_closed ds) ∙ sym (append_assoc (data_tokens d) (each_tokens ds) (end_array ∷ []))

module _ (old : List Token) (name : List ℕ) where
  -- a list is begun under a key
  abbrev pub begun : List Token
  begun = old ++ key name ∷ begin_array ∷ []

  -- by two calls
  pub list_begun : (mid new : List Token) → mid ≡ old ++ key name ∷ [] → new ≡ mid ++ begin_array ∷ [] → new ≡ begun ++ []
  list_begun mid new named opened = written_first old mid new (key name ∷ []) (begin_array ∷ []) named opened ∙ sym (append-nil begun)

  -- and is ended
  pub list_ended : (mid new : List Token) (items all : List Data) → items ≡ all → mid ≡ begun ++ each_tokens items → new ≡ mid ++ end_array ∷ []
      → new ≡ old ++ member_tokens name (array (items_of all))
  list_ended mid new items all whole are ended =
      written_first begun mid new (each_tokens items) (end_array ∷ []) are ended
      ∙ append_assoc old (key name ∷ begin_array ∷ []) (each_tokens items ++ end_array ∷ [])
      ∙ ap (λ ts. old ++ key name ∷ begin_array ∷ ts) (ap (λ ds. each_tokens ds ++ end_array ∷ []) whole ∙ sym (items_closed all))

  -- the same by a call in last place
  pub list_ended_last : {E : Type 0} (result : Result (Unit {0}) E) (mid new : List Token) (items all : List Data) → items ≡ all → mid ≡ begun ++ each_tokens items
      → OnOk result (new ≡ mid ++ end_array ∷ []) → OnOk result (new ≡ old ++ member_tokens name (array (items_of all)))
  list_ended_last (Ok done) mid new items all whole are ended = list_ended mid new items all whole are ended
  list_ended_last (Err short) mid new items all whole are ended = tt

-- a list without a key, of two parts
pub list_of_two : (old m1 m2 m3 new : List Token) (front back all : List Data) → all ≡ front ++ back → m1 ≡ old ++ begin_array ∷ []
    → m2 ≡ m1 ++ each_tokens front → m3 ≡ m2 ++ each_tokens back → new ≡ m3 ++ end_array ∷ [] → new ≡ old ++ data_tokens (array (items_of all))
list_of_two old m1 m2 m3 new front back all are opened first second ended =
    written_first old m1 new (begin_array ∷ []) _ opened
    (written_first m1 m2 new (each_tokens front) _ first (written_first m2 m3 new (each_tokens back) _ second ended))
    ∙ ap (λ ts. old ++ begin_array ∷ ts)
    (sym (items_closed all ∙ ap (λ ds. each_tokens ds ++ end_array ∷ []) are
    ∙ ap (λ ts. ts ++ end_array ∷ []) (flat_map-append data_tokens front back) ∙ append_assoc (each_tokens front) (each_tokens back) (end_array ∷ [])))

-- the tokens of a round, of these findings and this order
module _ (graph : Tfpg) (round : Round) (findings : List Finding) (order : List ℕ) where
  abbrev pub open_member : List Token
  open_member = member_tokens (codes "open") (sets_data graph (filter (λ (f : Finding). is_open f.status) findings))

  abbrev pub rejected_member : List Token
  rejected_member = member_tokens (codes "rejected") (sets_data graph (filter is_rejected_now findings))

  abbrev pub ranked_member : List Token
  ranked_member =
      member_tokens (codes "ranked") (array (items_of (filter_map (λ (f : Finding). ranked_data graph f f.status) (findings_at findings order))))

  abbrev pub after_open : List Token
  after_open = ranked_member ++ (rejected_member ++ (member_tokens (codes "round") (whole round.number) ++ end_object ∷ []))

  abbrev pub round_tokens : List Token
  round_tokens =
      begin_object ∷ (member_tokens (codes "counts") (counts_data round.counts)
      ++ (member_tokens (codes "line") (whole round.line) ++ (member_tokens (codes "now") (whole round.now) ++ (open_member ++ after_open))))

-- where they are those of the round
pub round_tokens_are : (graph : Tfpg) (round : Round) (findings : List Finding) (order : List ℕ) → findings ≡ round.findings → order ≡ round.order
    → round_tokens graph round findings order ≡ data_tokens (round_data graph round)
round_tokens_are graph round findings order these ordered = λ i. round_tokens graph round (these i) (ordered i)

-- what a writer that began after old bytes gives back
module _ (old : List ℕ) (value : Data) (first last : Written) (bytes : List ℕ) (after : first.before ≡ old) (none : first.tokens ≡ [])
    (kept : last.before ≡ first.before) (given : bytes ≡ last.before ++ print last.tokens) where
  -- the old bytes, and others
  front_kept : bytes ≡ old ++ print last.tokens
  front_kept = given ∙ ap (λ bs. bs ++ print last.tokens) (kept ∙ after)

  -- the old bytes and the text of the data whose tokens it has
  pub text_written : last.tokens ≡ first.tokens ++ data_tokens value → bytes ≡ old ++ compact_text value
  text_written written =
      front_kept ∙ ap (λ ts. old ++ print ts) (written ∙ ap (λ ts. ts ++ data_tokens value) none) ∙ ap (λ text. old ++ text) (print-outline value)

  -- what that says of the call
  pub text_appended : (result : Result (Unit {0}) NoMemory) → OnOk result (last.tokens ≡ first.tokens ++ data_tokens value) → Appends result old bytes (compact_text value)
  text_appended (Ok done) written = text_written written
  text_appended (Err short) written = (print last.tokens, front_kept)
