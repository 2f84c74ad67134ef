-- What is read of a line is what it says, and it says no more than one thing.
use Rattle.std.proofs.Common.{◌≡◌, inl, inr, ℕ, ◌<◌, ◌≤◌, false, List, [], ◌∷◌, length, Option, Some, None, codes, refl, ap, sym, subst, ◌∙◌, arith}
use Rattle.std.specs.Prelude.{decimal, IfOk, IsErrOf, Result, Ok, Err}
use Rattle.std.specs.Option.{ok_or}
use Rattle.std.specs.List.{join_with_byte}
use Rattle.std.specs.Str.{bytes_eq}
use Rattle.std.proofs.lemmas.Bool.{false≢true}
use Rattle.std.proofs.lemmas.Option.{same_Some}
use Rattle.tfpg_base.specs.Hypothesis.{Hypothesis}
use Rattle.tfpg_base.specs.Words.{words_of}
use Rattle.tfpg_base.specs.declared.limits.TheConstants.{LONGEST_LINE, MAX_WORDS}
use Rattle.tfpg_base.proofs.lemmas.Separators.{join_with_byte-words_of}
use Rattle.tfpg_base.proofs.lemmas.lists.SameBytes.{bytes_eq-same}
use Rattle.tfpg_graph.specs.Graph.{Tfpg}
use Rattle.tfpg_graph.specs.Valid.{IsValid}
use Rattle.tfpg_report.specs.SetText.{IsHypothesisOf, set_word}
use Rattle.tfpg_report.specs.ReadSets.{IsHypothesisIn}
use Rattle.tfpg_report.specs.ReportLines.{IsLineWithin, Says, line_words}
use Rattle.tfpg_report.specs.declared.report_line.ReportLine.{ReportLine}
use Rattle.tfpg_report.specs.declared.report_line.ReportLine.TheVariants as variant
use Rattle.tfpg_report.specs.declared.reading.read_findings.RankedNumbers.{RankedNumbers}
use Rattle.tfpg_report.specs.declared.reading.read_line.LineRefusal.{LineRefusal}
use Rattle.tfpg_report.specs.declared.reading.read_line.LineRefusal.TheVariants.{NotALine, NoMemory}
use Rattle.tfpg_report.specs.inside.LinesRead.{numbered_in, plain_line_in, ranked_in}
use Rattle.tfpg_report.specs.inside.WordsRead.{AreNumberedRead, AreWordsRead, HasNumbered, HasWords, plain_words_in}
use Rattle.tfpg_report.proofs.lemmas.SetWords.{one_hypothesis}
use Rattle.tfpg_report.proofs.lemmas.reading.ReadLines.{IsOpen, IsRanked, IsRejected, KindOf, kind_of}
use Rattle.tfpg_report.proofs.lemmas.reading.SaidLines.{plain_line-is}
use Rattle.tfpg_report.proofs.lemmas.reading.SetLines.{AreRankedWithin, numbered-is, numbered-reads, ranked-is, ranked-reads, ranked_words}
use Rattle.tfpg_report.proofs.lemmas.reading.WordsOfLines.{line-few_words, words_of-line}

-- words that begin with one word do not begin with another
apart : (word other : List ℕ) (words others : List (List ℕ)) → bytes_eq word other ≡ false → word ∷ words ≡ other ∷ others → ⊥
apart word other words others differ e =
    let same : word ≡ other = cc in
    false≢true (sym differ ∙ ap (λ (w : List ℕ). bytes_eq w other) same ∙ bytes_eq-same other)

module _ (graph : Tfpg) (valid : IsValid graph) where
  -- ---- a number and a set

  module _ (words : List (List ℕ)) where
    -- words that are not read as a number and a set are none
    pub no_numbered-unread : numbered_in words ≡ None → (number : ℕ) (hypothesis : Hypothesis) → HasNumbered graph words number hypothesis → ⊥
    no_numbered-unread none number hypothesis has =
        let read = sym none ∙ ap numbered_in has.words_are ∙ numbered-reads number (set_word graph hypothesis) has.small in
        cc

    module _ (number : ℕ) (set : List ℕ) (read : numbered_in words ≡ Some (number, set)) where
      -- nor are those whose last word is the text of no hypothesis
      pub no_numbered-set : IsHypothesisIn graph set None → (other : ℕ) (hypothesis : Hypothesis) → HasNumbered graph words other hypothesis → ⊥
      no_numbered-set none other hypothesis has =
          let same = same_Some _ _ (sym read ∙ ap numbered_in has.words_are ∙ numbered-reads other (set_word graph hypothesis) has.small) in
          none hypothesis has.of_graph (ap (λ (r : ℕ × List ℕ). r.1) same)

      -- others are
      pub numbered_read : (hypothesis : Hypothesis) → IsHypothesisIn graph set (Some hypothesis) → HasNumbered graph words number hypothesis
      numbered_read hypothesis is =
          let has = numbered-is words (number, set) read in
          record { words_are = has.words_are ∙ ap (λ (word : List ℕ). decimal number ∷ codes "set" ∷ word ∷ []) is.1; small = has.within; of_graph = is.0 }

    -- ---- the lines of an open and of a rejected hypothesis

    -- words that are those for a number and a set
    record AreNumbered (made : ℕ → Hypothesis → ReportLine) (line : ReportLine) : Type 0 where
      number : ℕ
      hypothesis : Hypothesis
      has : HasNumbered graph words number hypothesis
      line_is : line ≡ made number hypothesis

    -- the words of a line that begins so
    of_open : (line : ReportLine) → HasWords graph (codes "open" ∷ words) line → AreNumbered variant.Open line
    of_open line has = by (kind_of graph valid line has.within)
      where
        by : KindOf graph valid line → AreNumbered variant.Open line
        by (inl plain) = absurd (let none = ap (plain_words_in graph) has.words_are ∙ plain in cc)
        by (inr (inl ranked)) = absurd (apart (codes "open") (codes "ranked") words _ refl (has.words_are ∙ ap (line_words graph) ranked.is))
        by (inr (inr (inl is))) =
            let same : codes "open" ∷ words ≡ line_words graph (variant.Open is.number is.hypothesis) = has.words_are ∙ ap (line_words graph) is.is in
            let within = subst (IsLineWithin graph) is.is has.within in
            record { number = is.number; hypothesis = is.hypothesis; has = record { words_are = cc; small = within.0; of_graph = within.1 }; line_is = is.is }
        by (inr (inr (inr rejected))) = absurd (apart (codes "open") (codes "rejected") words _ refl (has.words_are ∙ ap (line_words graph) rejected.is))

    of_rejected : (line : ReportLine) → HasWords graph (codes "rejected" ∷ words) line → AreNumbered variant.Rejected line
    of_rejected line has = by (kind_of graph valid line has.within)
      where
        by : KindOf graph valid line → AreNumbered variant.Rejected line
        by (inl plain) = absurd (let none = ap (plain_words_in graph) has.words_are ∙ plain in cc)
        by (inr (inl ranked)) = absurd (apart (codes "rejected") (codes "ranked") words _ refl (has.words_are ∙ ap (line_words graph) ranked.is))
        by (inr (inr (inl of))) = absurd (apart (codes "rejected") (codes "open") words _ refl (has.words_are ∙ ap (line_words graph) of.is))
        by (inr (inr (inr is))) =
            let same : codes "rejected" ∷ words ≡ line_words graph (variant.Rejected is.number is.hypothesis) = has.words_are ∙ ap (line_words graph) is.is in
            let within = subst (IsLineWithin graph) is.is has.within in
            record { number = is.number; hypothesis = is.hypothesis; has = record { words_are = cc; small = within.0; of_graph = within.1 }; line_is = is.is }

    -- two lines of the same kind are one
    one_numbered : (made : ℕ → Hypothesis → ReportLine) (one other : ReportLine) → AreNumbered made one → AreNumbered made other → one ≡ other
    one_numbered made one other are too =
        let same = same_Some _ _ (sym (numbered-reads are.number (set_word graph are.hypothesis) are.has.small)
        ∙ ap numbered_in (sym are.has.words_are ∙ too.has.words_are)
        ∙ numbered-reads too.number (set_word graph too.hypothesis) too.has.small) in
        let hypothesis : are.hypothesis ≡ too.hypothesis =
        one_hypothesis graph valid are.hypothesis too.hypothesis are.has.of_graph too.has.of_graph (ap (λ (r : ℕ × List ℕ). r.1) same) in
        are.line_is ∙ (λ i. made (same i).0 (hypothesis i)) ∙ sym too.line_is

    -- no line begins so, where no number and set were read
    pub no_open : (refusal : LineRefusal) → AreNumberedRead graph words (Err refusal) → AreWordsRead graph (codes "open" ∷ words) (Err refusal)
    no_open NotALine none = λ line has. let are = of_open line has in none are.number are.hypothesis are.has
    no_open NoMemory none = tt

    pub no_rejected : (refusal : LineRefusal) → AreNumberedRead graph words (Err refusal) → AreWordsRead graph (codes "rejected" ∷ words) (Err refusal)
    no_rejected NotALine none = λ line has. let are = of_rejected line has in none are.number are.hypothesis are.has
    no_rejected NoMemory none = tt

    -- ---- the line of a ranked hypothesis

    -- words that are those of a ranked hypothesis
    record AreRanked (line : ReportLine) : Type 0 where
      numbers : RankedNumbers
      hypothesis : Hypothesis
      line_is : line ≡ variant.Ranked numbers.number numbers.cost numbers.alarmed numbers.monitored hypothesis
      words_are : words ≡ ranked_words numbers (codes "set" ∷ set_word graph hypothesis ∷ [])
      within : AreRankedWithin numbers
      of_graph : IsHypothesisOf graph hypothesis

    of_ranked : (line : ReportLine) → HasWords graph (codes "ranked" ∷ words) line → AreRanked line
    of_ranked line has = by (kind_of graph valid line has.within)
      where
        by : KindOf graph valid line → AreRanked line
        by (inl plain) = absurd (let none = ap (plain_words_in graph) has.words_are ∙ plain in cc)
        by (inr (inl is)) =
            let same : codes "ranked" ∷ words ≡ line_words graph (variant.Ranked is.number is.cost is.alarmed is.monitored is.hypothesis) =
            has.words_are ∙ ap (line_words graph) is.is in
            let within = subst (IsLineWithin graph) is.is has.within in
            record {
              numbers = record { number = is.number; cost = is.cost; alarmed = is.alarmed; monitored = is.monitored };
              hypothesis = is.hypothesis;
              line_is = is.is;
              words_are = cc;
              within = record { number = within.0; cost = within.1; alarmed = within.2; monitored = within.3 };
              of_graph = within.4;
            }
        by (inr (inr (inl of))) = absurd (apart (codes "ranked") (codes "open") words _ refl (has.words_are ∙ ap (line_words graph) of.is))
        by (inr (inr (inr rejected))) = absurd (apart (codes "ranked") (codes "rejected") words _ refl (has.words_are ∙ ap (line_words graph) rejected.is))

    -- two such lines are one
    one_ranked : (one other : ReportLine) → AreRanked one → AreRanked other → one ≡ other
    one_ranked one other are too =
        let same = same_Some _ _ (sym (ranked-reads are.numbers (set_word graph are.hypothesis) are.within)
        ∙ ap ranked_in (sym are.words_are ∙ too.words_are)
        ∙ ranked-reads too.numbers (set_word graph too.hypothesis) too.within) in
        let hypothesis : are.hypothesis ≡ too.hypothesis =
        one_hypothesis graph valid are.hypothesis too.hypothesis are.of_graph too.of_graph (ap (λ (r : RankedNumbers × List ℕ). r.1) same) in
        are.line_is
        ∙ (λ i. variant.Ranked (same i).0.number (same i).0.cost (same i).0.alarmed (same i).0.monitored (hypothesis i))
        ∙ sym too.line_is

    -- words that are not read so are those of no line
    pub no_ranked-unread : ranked_in words ≡ None → (line : ReportLine) → HasWords graph (codes "ranked" ∷ words) line → ⊥
    no_ranked-unread none line has =
        let are = of_ranked line has in
        let read = sym none ∙ ap ranked_in are.words_are ∙ ranked-reads are.numbers (set_word graph are.hypothesis) are.within in
        cc

    module _ (numbers : RankedNumbers) (set : List ℕ) (read : ranked_in words ≡ Some (numbers, set)) where
      -- nor are those whose last word is the text of no hypothesis
      pub no_ranked-set : IsHypothesisIn graph set None → (line : ReportLine) → HasWords graph (codes "ranked" ∷ words) line → ⊥
      no_ranked-set none line has =
          let are = of_ranked line has in
          let same = same_Some _ _ (sym read ∙ ap ranked_in are.words_are ∙ ranked-reads are.numbers (set_word graph are.hypothesis) are.within) in
          none are.hypothesis are.of_graph (ap (λ (r : RankedNumbers × List ℕ). r.1) same)

      -- others are
      pub ranked_read : (hypothesis : Hypothesis) → IsHypothesisIn graph set (Some hypothesis)
          → HasWords graph (codes "ranked" ∷ words) (variant.Ranked numbers.number numbers.cost numbers.alarmed numbers.monitored hypothesis)
      ranked_read hypothesis is =
          let has = ranked-is words (numbers, set) read in
          record {
            words_are = ap (λ (ws : List (List ℕ)). codes "ranked" ∷ ws)
                (has.words_are ∙ ap (λ (word : List ℕ). ranked_words numbers (codes "set" ∷ word ∷ [])) is.1);
            within = (has.within.number, has.within.cost, has.within.alarmed, has.within.monitored, is.0);
          }

  -- ---- a line without a set

  -- a keyword that is none of those
  pub record HasNoSet (keyword : List ℕ) : Type 0 where
    pub not_ranked : bytes_eq keyword (codes "ranked") ≡ false
    pub not_open : bytes_eq keyword (codes "open") ≡ false
    pub not_rejected : bytes_eq keyword (codes "rejected") ≡ false

  module _ (keyword : List ℕ) (words : List (List ℕ)) (other : HasNoSet keyword) where
    no_plain : plain_line_in graph keyword words ≡ None → (line : ReportLine) → HasWords graph (keyword ∷ words) line → ⊥
    no_plain none line has = by (kind_of graph valid line has.within)
      where
        by : KindOf graph valid line → ⊥
        by (inl plain) = let read = sym none ∙ ap (plain_words_in graph) has.words_are ∙ plain in cc
        by (inr (inl ranked)) = apart keyword (codes "ranked") words _ other.not_ranked (has.words_are ∙ ap (line_words graph) ranked.is)
        by (inr (inr (inl of))) = apart keyword (codes "open") words _ other.not_open (has.words_are ∙ ap (line_words graph) of.is)
        by (inr (inr (inr rejected))) = apart keyword (codes "rejected") words _ other.not_rejected (has.words_are ∙ ap (line_words graph) rejected.is)

    -- What was read of them, or that none was, as code returns it.
    pub plain_read : (found : Option ReportLine) (result : Result ReportLine LineRefusal) → found ≡ plain_line_in graph keyword words → result ≡ ok_or found NotALine
        → AreWordsRead graph (keyword ∷ words) result
    plain_read (Some line) result is same = subst (AreWordsRead graph (keyword ∷ words)) (sym same) (plain_line-is graph keyword words line (sym is))
    plain_read None result is same = subst (AreWordsRead graph (keyword ∷ words)) (sym same) (no_plain (sym is))

  -- ---- each line

  module _ (line : List ℕ) where
    -- a line that says this has its words
    says_words : (said : ReportLine) → Says graph said line → words_of line ≡ line_words graph said
    says_words said says = ap words_of says.written ∙ words_of-line graph valid said says.within

    -- so it has no more words than a line may have
    pub says_few : MAX_WORDS < length (words_of line) → (said : ReportLine) → Says graph said line → ⊥
    says_few many said says = omega (arith, many, ap length (says_words said says), line-few_words graph valid said says.within)

    -- what was read of its words is what it says
    pub words_read-say : length line ≤ LONGEST_LINE → (result : Result ReportLine LineRefusal) → AreWordsRead graph (words_of line) result → IfOk result (λ read. Says graph read line)
    words_read-say short (Ok read) has = record { written = sym (join_with_byte-words_of line) ∙ ap (join_with_byte 32) has.words_are; within = has.within; short = short }
    words_read-say short (Err refusal) has = tt

    -- where none was read, it says nothing
    pub words_read-none : (result : Result ReportLine LineRefusal) → AreWordsRead graph (words_of line) result → IsErrOf result NotALine → (said : ReportLine) → Says graph said line → ⊥
    words_read-none (Ok read) has none said says = absurd cc
    words_read-none (Err NotALine) has none said says = has said (record { words_are = says_words said says; within = says.within })
    words_read-none (Err NoMemory) has none said says = absurd cc

    -- ---- no line says two things

    -- A line says no two things.
    pub one_line : (one other : ReportLine) → Says graph one line → Says graph other line → one ≡ other
    one_line one other says too = by (kind_of graph valid one says.within) (kind_of graph valid other too.within)
      where
        same : line_words graph one ≡ line_words graph other
        same = sym (says_words one says) ∙ says_words other too

        has : (said : ReportLine) (words : List (List ℕ)) → Says graph said line → words ≡ line_words graph said → HasWords graph words said
        has said words is words_are = record { words_are = words_are; within = is.within }

        ranked : (this that : ReportLine) → IsRanked graph valid this → Says graph this line → Says graph that line → line_words graph this ≡ line_words graph that → this ≡ that
        ranked this that is these those equal =
            let words_are = sym (ap (line_words graph) is.is) in
            one_ranked _ this that (of_ranked _ this (has this _ these words_are)) (of_ranked _ that (has that _ those (words_are ∙ equal)))

        unsettled : (this that : ReportLine) → IsOpen graph valid this → Says graph this line → Says graph that line → line_words graph this ≡ line_words graph that → this ≡ that
        unsettled this that is these those equal =
            let words_are = sym (ap (line_words graph) is.is) in
            one_numbered _ variant.Open this that (of_open _ this (has this _ these words_are)) (of_open _ that (has that _ those (words_are ∙ equal)))

        rejected : (this that : ReportLine) → IsRejected graph valid this → Says graph this line → Says graph that line → line_words graph this ≡ line_words graph that → this ≡ that
        rejected this that is these those equal =
            let words_are = sym (ap (line_words graph) is.is) in
            one_numbered _ variant.Rejected this that (of_rejected _ this (has this _ these words_are)) (of_rejected _ that (has that _ those (words_are ∙ equal)))

        by : KindOf graph valid one → KindOf graph valid other → one ≡ other
        by (inl plain) (inl also) = same_Some one other (sym plain ∙ ap (plain_words_in graph) same ∙ also)
        by (inl plain) (inr (inl is)) = sym (ranked other one is too says (sym same))
        by (inl plain) (inr (inr (inl is))) = sym (unsettled other one is too says (sym same))
        by (inl plain) (inr (inr (inr is))) = sym (rejected other one is too says (sym same))
        by (inr (inl is)) kind = ranked one other is says too same
        by (inr (inr (inl is))) kind = unsettled one other is says too same
        by (inr (inr (inr is))) kind = rejected one other is says too same
