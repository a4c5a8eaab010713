-- What is named of a run on threads, in order, is its written sections, and passes the checker of sections.
use Rattle.std.proofs.Common.{◌≡◌, ℕ, ◌≤◌, List, [], ◌∷◌, length, map, All, IsPermutation, refl, ap, sym, ◌∙◌, subst, arith}
use Rattle.std.specs.Prelude.{Bool, Vec}
use Rattle.std.specs.declared.alloc.Global.{Global}
use Rattle.std.proofs.lemmas.List.Elements.{All-map, All-weaker}
use Rattle.std.proofs.lemmas.List.Sorted.{IsPermutation-sym, IsPermutation-trans}
use Rattle.lwkt_base.specs.declared.names.CpuId.{CpuId}
use Rattle.lwkt_base.specs.declared.opening_specs.TokSpec.{TokSpec}
use Rattle.lwkt_base.specs.declared.sections.Section.{Section}
use Rattle.lwkt_core.specs.declared.events.Event.{Event}
use Rattle.lwkt_drive.specs.ShortEvents.{KeptTrace}
use Rattle.lwkt_core.specs.declared.finals.Final.{Final}
use Rattle.lwkt_core.specs.declared.tokens.Token.{Token}
use Rattle.lwkt_core.specs.Tokens.{IsFree, IsOpen, IsSafeToken}
use Rattle.lwkt_core.specs.Machine.{Machine, IsSafe}
use Rattle.lwkt_core.specs.Trace.{Run}
use Rattle.lwkt_table.specs.declared.seats.Deed.{Deed}
use Rattle.lwkt_table.specs.History.{events_in, AreOthers}
use Rattle.lwkt_table.specs.Sections.{sections_by}
use Rattle.lwkt_core.specs.Opening.{opening, opened_token, AreWithin, AllOpenLawfully}
use Rattle.lwkt_core.specs.SectionChain.{RowsAt, AreInOrder, AreSectionChains, SectionsFailAt}
use Rattle.lwkt_core.specs.RunSections.{values_of, rows_of, section_in, sections_in, sections_named}
use Rattle.lwkt_core.proofs.ChainLemmas.{refutes}
use Rattle.lwkt_core.proofs.OpeningLemmas.{IsSafe-opening}
use Rattle.lwkt_table.proofs.OrderLemmas.{in_order_as_written, named_are_written}
use Rattle.lwkt_table.proofs.SectionParts.{chains_in_any_order, deeds_below, parts_are_all}
use Rattle.lwkt_core.proofs.RunChainLemmas.{IsSettled, open_settled}
use Rattle.lwkt_core.proofs.SafetyLemmas.{stays}
use Rattle.lwkt_report.specs.declared.closings.Closing.{Closing}
use Rattle.lwkt_base.specs.declared.threads.ThreadLine.{ThreadLine}
use Rattle.lwkt_report.specs.declared.closings.Verdict.{Verdict}
use Rattle.lwkt_report.specs.declared.closings.Verdict.TheVariants.{Closed, Lawful, Unlawful}
use Rattle.lwkt_script.specs.declared.scripts.Script.{Script}
use Rattle.lwkt_run.specs.Judging.{ids_of}
use Rattle.lwkt_run.specs.NamedSections.{sections_of_all, AreSorted, NameChains, opening_rows, closing_rows, IsVerdictOn, IsVerdictOnAll}
use Rattle.lwkt_run.specs.Threaded.{RunsOnThreads, AreTracesOfRun, ShowsLeft, MayCloseOnThreads, IsThreadRecord}
use Rattle.lwkt_run.specs.Values.{AreValuesOf}
use Rattle.lwkt_run.proofs.ChainMoves.{opens_open, free_open, without_messages, tokens_chain}
use Rattle.lwkt_run.proofs.GatherMoves.{as_many_rows}
use Rattle.lwkt_run.proofs.StopMoves.{stops_own, traces_many}
use Rattle.lwkt_run.proofs.NamedMoves.{named_by_all}

-- the rows that tokens are opened with are those of the model's opening
rows_opened : (specs : List TokSpec) → opening_rows specs ≡ map values_of (map opened_token specs)
rows_opened [] = refl
rows_opened (spec ∷ specs) = ap (λ (rows : RowsAt). (spec.cells, spec.generation) ∷ rows) (rows_opened specs)

-- the opening of a script within the limits, all of whose tokens open lawfully, is safe
safe_opening : (script : Script) → AreWithin script.cpus script.tokens script.messages → AllOpenLawfully script.tokens → IsSafe (opening script.cpus script.tokens [])
safe_opening script within lawful = IsSafe-opening script.cpus script.tokens [] (without_messages script.cpus script.tokens script.messages within) lawful

module _ (answers : CpuId → ℕ → Bool → Type 0) (script : Script) (lines : List ThreadLine) (last : Final) (within : AreWithin script.cpus script.tokens script.messages) (lawful : AllOpenLawfully script.tokens) (runs : RunsOnThreads answers script lines last) where
  abbrev from : Machine
  from = opening script.cpus script.tokens []

  abbrev history : List Deed
  history = runs.modelled.tokens.history

  abbrev to : Machine
  to = runs.modelled.tokens.last

  abbrev pub written : List Section
  written = sections_in from (events_in history)

  abbrev named : List Section
  named = sections_of_all runs.traces runs.stops

  run : Run from (events_in history) to
  run = subst (λ (x : Machine). Run x (events_in history) to) runs.tokens_from runs.modelled.tokens.run

  safe_last : IsSafe to
  safe_last = stays from (events_in history) to (safe_opening script within lawful) run

  pub few_closed : All (λ (row : List ℕ). length row ≤ 4) last.rows.items
  few_closed =
      let P : List ℕ → Type 0 = λ row. length row ≤ 4 in
      let rows : last.rows.items ≡ map (λ (tok : Token). tok.row) to.tokens = ap (λ (v : Vec (List ℕ) Global). v.items) runs.leaves.rows ∙ runs.modelled.tokens.ends.rows in
      subst (All P) (sym rows) (All-map P (λ (tok : Token). tok.row) to.tokens (All-weaker (IsSafeToken to.cpus) (λ (tok : Token). length tok.row ≤ 4) (λ tok is. is.few_cells) to.tokens safe_last.each_token))

  settled : All IsSettled from.tokens
  settled = open_settled from (safe_opening script within lawful) (opens_open script.tokens)

  settled_last : All IsSettled to.tokens
  settled_last = open_settled to safe_last (All-weaker IsFree IsOpen free_open to.tokens runs.modelled.tokens.ends.free)

  others : (cpu : ℕ) → length runs.traces ≤ cpu → AreOthers cpu history
  others cpu past = runs.modelled.tokens.others cpu (omega (arith, past, traces_many answers script lines last runs))

  -- what traces and stop name are the sections of the history, one processor's after another's
  named_by_cpus : IsPermutation (sections_by (length runs.traces) history) named
  named_by_cpus =
      let own = stops_own answers script lines last runs in
      named_by_all history runs.traces runs.stops (λ cpu part at. (runs.modelled.tokens.traced cpu part at).0) own

  -- and so are those that the run has written
  written_named : IsPermutation named written
  written_named =
      let all : IsPermutation (sections_named (events_in history)) (sections_by (length runs.traces) history) = parts_are_all section_in (length runs.traces) history (deeds_below (length runs.traces) history others) in
      IsPermutation-trans _ _ _ (IsPermutation-sym _ _ named_by_cpus) (IsPermutation-trans _ _ _ (IsPermutation-sym _ _ all) (named_are_written from (events_in history) to run settled settled_last))

  -- which are in order, and chains
  written_chains : AreInOrder written × AreSectionChains (rows_of from) (closing_rows last) written
  written_chains = tokens_chain script.cpus script.tokens script.messages _ _ _ _ last within lawful runs.tokens_from runs.modelled.tokens.run runs.modelled.tokens.ends runs.leaves.rows runs.leaves.gens

  pub written_in_order : NameChains from runs.traces runs.stops last written
  written_in_order = record { named = written_named; ordered = written_chains.0; chains = written_chains.1 }

  -- what is named, by token and generation, is what the run has written
  pub sorted_are_written : (sections : List Section) → IsPermutation named sections → AreSorted sections → sections ≡ written
  sorted_are_written sections same sorted = in_order_as_written from history to (length runs.traces) sections run settled settled_last others (IsPermutation-trans _ _ _ named_by_cpus same) sorted

  -- so the verdict on it is that bank and book were closed
  pub named_closed : (verdict : Verdict) → AreValuesOf script.tokens last → IsVerdictOnAll verdict (opening_rows script.tokens) (closing_rows last) named → verdict ≡ Closed
  named_closed Closed values on = refl
  named_closed (Unlawful index) values on =
      let long = as_many_rows script.tokens last.rows.items last.gens.items values.rows (values.gens ∙ sym values.rows) in
      let is : on.0 ≡ written = sorted_are_written on.0 on.1.0 on.1.1.0 in
      let fails : SectionsFailAt (opening_rows script.tokens) (closing_rows last) written index = subst (λ (xs : List Section). SectionsFailAt (opening_rows script.tokens) (closing_rows last) xs index) is on.1.1.1 in
      absurd (refutes (opening_rows script.tokens) (closing_rows last) written index long fails
      (written_chains.0, subst (λ (rows : RowsAt). AreSectionChains rows (closing_rows last) written) (sym (rows_opened script.tokens)) written_chains.1))
  named_closed Lawful values on = absurd on

-- a verdict on sections in order is one on them in whatever order
pub on_all : (verdict : Verdict) (first last : RowsAt) (named sections : List Section) → IsPermutation named sections → AreSorted sections → IsVerdictOn verdict first last sections → IsVerdictOnAll verdict first last named
on_all Closed first last named sections same sorted on = chains_in_any_order first last sections named (IsPermutation-sym named sections same) on.1
on_all (Unlawful index) first last named sections same sorted on = (sections, (same, (sorted, on)))
on_all Lawful first last named sections same sorted on = absurd on

-- what a report shows, if its verdict is one on what was named of a run on threads with its lines
module _ (answers : CpuId → ℕ → Bool → Type 0) (script : Script) (last : Final) (traces : List KeptTrace) (stops : List Event) (verdict : Verdict) (closing : Closing) (within : AreWithin script.cpus script.tokens script.messages) (lawful : AllOpenLawfully script.tokens) (values : AreValuesOf script.tokens last)
    (ids : map (λ line. line.id) closing.threads.items ≡ ids_of script.cpus script.threads) (traces_of_run : AreTracesOfRun answers script closing.threads.items last traces stops) (shows : ShowsLeft script.tokens closing.threads.items last verdict closing) where
  abbrev r : RunsOnThreads answers script closing.threads.items last
  r = traces_of_run.runs

  same_named : sections_of_all r.traces r.stops ≡ sections_of_all traces stops
  same_named = λ i. sections_of_all (traces_of_run.traces_are i) (traces_of_run.stops_are i)

  abbrev closes_so : IsVerdictOnAll verdict (opening_rows script.tokens) (closing_rows last) (sections_of_all traces stops) → MayCloseOnThreads answers script closing
  closes_so on = record {
    within = within;
    lawful_opening = lawful;
    kinds = shows.kinds;
    threads = ids;
    closed = shows.verdict_is ∙ named_closed answers script closing.threads.items last within lawful r verdict values (subst (λ (xs : List Section). IsVerdictOnAll verdict (opening_rows script.tokens) (closing_rows last) xs) (sym same_named) on);
    last = last;
    shows = shows.shows;
    runs = r;
    chains = tokens_chain script.cpus script.tokens script.messages _ _ _ _ last within lawful r.tokens_from r.modelled.tokens.run r.modelled.tokens.ends r.leaves.rows r.leaves.gens;
    sections = written answers script closing.threads.items last within lawful r;
    named = written_in_order answers script closing.threads.items last within lawful r;
    written = refl;
  }

  records_so : (sections : Vec Section Global) (givers : Vec CpuId Global) → IsPermutation (sections_of_all traces stops) sections.items → AreSorted sections.items → IsVerdictOn verdict (opening_rows script.tokens) (closing_rows last) sections.items → IsThreadRecord answers script (record { closing = closing; sections = sections; givers = givers })
  records_so sections givers same sorted on = record {
    closes = closes_so (on_all verdict (opening_rows script.tokens) (closing_rows last) (sections_of_all traces stops) sections.items same sorted on);
    sections_are = sorted_are_written answers script closing.threads.items last within lawful r sections.items (subst (λ (xs : List Section). IsPermutation xs sections.items) (sym same_named) same) sorted;
  }

-- the same, where the lines are those that the run has left
module _ (answers : CpuId → ℕ → Bool → Type 0) (script : Script) (lines : List ThreadLine) (last : Final) (traces : List KeptTrace) (stops : List Event) (verdict : Verdict) (closing : Closing) (within : AreWithin script.cpus script.tokens script.messages) (lawful : AllOpenLawfully script.tokens) (values : AreValuesOf script.tokens last)
    (ids : map (λ line. line.id) lines ≡ ids_of script.cpus script.threads) (traces_of_run : AreTracesOfRun answers script lines last traces stops) (shows : ShowsLeft script.tokens lines last verdict closing) where
  abbrev Ids : List ThreadLine → Type 0
  Ids l = map (λ line. line.id) l ≡ ids_of script.cpus script.threads

  own_ids : Ids closing.threads.items
  own_ids = subst Ids (sym shows.threads) ids

  own_traces : AreTracesOfRun answers script closing.threads.items last traces stops
  own_traces = subst (λ (l : List ThreadLine). AreTracesOfRun answers script l last traces stops) (sym shows.threads) traces_of_run

  own_shows : ShowsLeft script.tokens closing.threads.items last verdict closing
  own_shows = subst (λ (l : List ThreadLine). ShowsLeft script.tokens l last verdict closing) (sym shows.threads) shows

  pub closes_on_threads : IsVerdictOnAll verdict (opening_rows script.tokens) (closing_rows last) (sections_of_all traces stops) → MayCloseOnThreads answers script closing
  closes_on_threads = closes_so answers script last traces stops verdict closing within lawful values own_ids own_traces own_shows

  pub records_on_threads : (sections : Vec Section Global) (givers : Vec CpuId Global) → IsPermutation (sections_of_all traces stops) sections.items → AreSorted sections.items → IsVerdictOn verdict (opening_rows script.tokens) (closing_rows last) sections.items → IsThreadRecord answers script (record { closing = closing; sections = sections; givers = givers })
  records_on_threads = records_so answers script last traces stops verdict closing within lawful values own_ids own_traces own_shows
