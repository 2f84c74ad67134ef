-- Reports that are equal byte by byte have the same terms, and block by block the same lines of open hypotheses and of traces.
use Rattle.std.proofs.Common.{◌≡◌, ℕ, ◌<◌, ◌^◌, ◌==◌, List, [], ◌∷◌, ◌++◌, map, drop, get_or, Some, codes, refl, sym, ap, ◌∙◌, append_assoc, slice_get, arith}
use Rattle.std.specs.Prelude.{flat_map, filter, decimal, option_map}
use Rattle.std.proofs.lemmas.Fmt.{decimal_injective}
use Rattle.std.proofs.lemmas.List.Elements.{All-cons}
use Rattle.std.proofs.lemmas.List.Splits.{slice_split_at}
use Rattle.std.proofs.lemmas.Option.{same_Some, slice_get-map}
use Rattle.tfpg_base.specs.declared.terms.Terms.{Terms}
use Rattle.tfpg_base.specs.Terms.{AreReportTerms}
use Rattle.tfpg_base.specs.Lines.{HasNoLineEnd, with_line_end, lines_of}
use Rattle.tfpg_base.specs.Words.{line_of, words_of}
use Rattle.tfpg_base.proofs.lemmas.LinesOf.{lines_of-after, lines_of-line}
use Rattle.tfpg_base.proofs.lemmas.lists.Groups.{group, AreGroups, same_groups}
use Rattle.tfpg_base.proofs.lemmas.lists.Lacking.{Lacks, slice_split-join, lacks_checked}
use Rattle.tfpg_graph.specs.Graph.{Tfpg}
use Rattle.tfpg_graph.specs.Valid.{IsValid}
use Rattle.tfpg_report.specs.Blocks.{Block, block_text, head_text}
use Rattle.tfpg_report.proofs.lemmas.CleanLines.{number_lacks, clean_line, words, number}
use Rattle.tfpg_report.proofs.lemmas.BlockLines.{begins_block, is_open_line, shows_trace, open_lines_in, trace_lines_in, block_lines}

-- ---- words of a line

-- Lines that begin with the same word and then have a number have the same number.
pub same_number : (keyword others more : List ℕ) (n m : ℕ) → Lacks 32 keyword → n < 2 ^ 64 → m < 2 ^ 64
    → keyword ++ 32 ∷ (decimal n ++ 32 ∷ others) ≡ keyword ++ 32 ∷ (decimal m ++ 32 ∷ more) → n ≡ m
same_number keyword others more n m lacks small also same =
    decimal_injective n m small also (sym (second n others) ∙ ap (λ (line : List ℕ). get_or (words_of line) 1 []) same ∙ second m more)
  where
    second : (k : ℕ) (after : List ℕ) → get_or (words_of (keyword ++ 32 ∷ (decimal k ++ 32 ∷ after))) 1 [] ≡ decimal k
    second k after =
        ap (λ (ws : List (List ℕ)). get_or ws 1 [])
        (slice_split_at (λ byte. byte == 32) keyword 32 (decimal k ++ 32 ∷ after) lacks refl
        ∙ ap (λ (ws : List (List ℕ)). keyword ∷ ws) (slice_split_at (λ byte. byte == 32) (decimal k) 32 after (number_lacks 32 k (omega arith)) refl))

-- ---- the head

-- the words of the first line
abbrev head_words : Terms → List (List ℕ)
head_words terms = codes "report" ∷ codes "2" ∷ codes "k" ∷ decimal terms.k ∷ codes "doubt" ∷ decimal terms.doubt ∷ codes "budget" ∷ decimal terms.budget ∷ []

-- the first line of a text is that of its head
lines-head : (terms : Terms) (after : List ℕ) → lines_of (head_text terms ++ after) ≡ line_of (head_words terms) ∷ lines_of after
lines-head terms after =
    ap lines_of (append_assoc (line_of (head_words terms)) (10 ∷ []) after)
    ∙ lines_of-line (line_of (head_words terms)) after
    (clean_line (head_words terms)
    (words (head_words terms) (lacks_checked 10 (codes "report") refl, (lacks_checked 10 (codes "2") refl, (lacks_checked 10 (codes "k") refl, (number terms.k, (lacks_checked 10 (codes "doubt") refl, (number terms.doubt, (lacks_checked 10 (codes "budget") refl, (number terms.budget, tt))))))))))

-- it has these words
words-head : (terms : Terms) → words_of (line_of (head_words terms)) ≡ head_words terms
words-head terms =
    slice_split-join 32 (head_words terms) (omega arith)
    (lacks_checked 32 (codes "report") refl, (lacks_checked 32 (codes "2") refl, (lacks_checked 32 (codes "k") refl, (number_lacks 32 terms.k (omega arith), (lacks_checked 32 (codes "doubt") refl, (number_lacks 32 terms.doubt (omega arith), (lacks_checked 32 (codes "budget") refl, (number_lacks 32 terms.budget (omega arith), tt))))))))

-- the terms are read back
same_terms : (terms others : Terms) → AreReportTerms terms → AreReportTerms others → line_of (head_words terms) ≡ line_of (head_words others) → terms ≡ others
same_terms terms others within also same =
    let same_words : head_words terms ≡ head_words others = sym (words-head terms) ∙ ap words_of same ∙ words-head others in
    let k : terms.k ≡ others.k =
    decimal_injective terms.k others.k (omega (arith, within.few_members)) (omega (arith, also.few_members)) (ap (λ (ws : List (List ℕ)). get_or ws 3 []) same_words) in
    let doubt : terms.doubt ≡ others.doubt =
    decimal_injective terms.doubt others.doubt (omega (arith, within.few_doubts)) (omega (arith, also.few_doubts)) (ap (λ (ws : List (List ℕ)). get_or ws 5 []) same_words) in
    let budget : terms.budget ≡ others.budget =
    decimal_injective terms.budget others.budget (omega (arith, within.few_splits)) (omega (arith, also.few_splits)) (ap (λ (ws : List (List ℕ)). get_or ws 7 []) same_words) in
    λ i. record { k = k i; doubt = doubt i; budget = budget i }

-- ---- the blocks

module _ (graph : Tfpg) (valid : IsValid graph) where
  -- the first line of a block, and the others
  abbrev first_of : Block → List ℕ
  first_of block = (block_lines graph valid block).first

  abbrev others_of : Block → List (List ℕ)
  others_of block = (block_lines graph valid block).has_lines.lines

  -- the lines of a text of blocks are theirs
  lines-blocks : (blocks : List Block) → lines_of (flat_map (block_text graph) blocks) ≡ flat_map (group begins_block first_of others_of) blocks
  lines-blocks [] = refl
  lines-blocks (block ∷ blocks) =
      let own = block_lines graph valid block in
      let lines = own.first ∷ own.has_lines.lines in
      let text : block_text graph block ≡ flat_map with_line_end lines = own.whole ∙ ap (λ (rest : List ℕ). with_line_end own.first ++ rest) own.has_lines.whole in
      ap (λ (front : List ℕ). lines_of (front ++ flat_map (block_text graph) blocks)) text
      ∙ lines_of-after lines (flat_map (block_text graph) blocks) (All-cons HasNoLineEnd own.first own.has_lines.lines own.clean own.has_lines.clean)
      ∙ ap (λ (rest : List (List ℕ)). lines ++ rest) (lines-blocks blocks)

  are_groups : (blocks : List Block) → AreGroups begins_block first_of others_of blocks
  are_groups blocks = record {
    first_passes = λ k d within. (block_lines graph valid (get_or blocks k d)).begins;
    others_fail = λ k d within. (block_lines graph valid (get_or blocks k d)).has_lines.within;
  }

  -- the lines of the block at a number are the same
  pub record HaveSameLines (block other : Block) : Type 0 where
    pub open_lines : open_lines_in graph block ≡ open_lines_in graph other
    pub trace_lines : trace_lines_in graph block ≡ trace_lines_in graph other

  -- Texts of heads and blocks that are the same have the same terms, and block by block the same lines.
  module _ (terms others : Terms) (blocks more : List Block) (same : head_text terms ++ flat_map (block_text graph) blocks ≡ head_text others ++ flat_map (block_text graph) more) where
    all_lines : line_of (head_words terms) ∷ lines_of (flat_map (block_text graph) blocks) ≡ line_of (head_words others) ∷ lines_of (flat_map (block_text graph) more)
    all_lines = sym (lines-head terms (flat_map (block_text graph) blocks)) ∙ ap lines_of same ∙ lines-head others (flat_map (block_text graph) more)

    pub one_head : AreReportTerms terms → AreReportTerms others → terms ≡ others
    one_head within also = same_terms terms others within also (ap (λ (lines : List (List ℕ)). get_or lines 0 []) all_lines)

    one_by_one : map (group begins_block first_of others_of) blocks ≡ map (group begins_block first_of others_of) more
    one_by_one =
        same_groups begins_block first_of others_of blocks more (are_groups blocks) (are_groups more)
        (sym (lines-blocks blocks) ∙ ap (drop 1) all_lines ∙ lines-blocks more)

    pub same_lines : (index : ℕ) (block other : Block) → slice_get blocks index ≡ Some block → slice_get more index ≡ Some other → HaveSameLines block other
    same_lines index block other at also =
        let f = group begins_block first_of others_of in
        let all : first_of block ∷ others_of block ≡ first_of other ∷ others_of other =
        same_Some (f block) (f other)
        (sym (slice_get-map f blocks index ∙ ap (option_map f) at) ∙ ap (λ (ls : List (List (List ℕ))). slice_get ls index) one_by_one
        ∙ slice_get-map f more index ∙ ap (option_map f) also) in
        let rest : others_of block ≡ others_of other = ap (drop 1) all in
        let one = (block_lines graph valid block).has_lines in
        let two = (block_lines graph valid other).has_lines in
        record {
          open_lines = sym one.open_lines ∙ ap (filter is_open_line) rest ∙ two.open_lines;
          trace_lines = sym one.trace_lines ∙ ap (filter shows_trace) rest ∙ two.trace_lines;
        }
