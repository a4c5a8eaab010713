use Rattle.std.proofs.Common.{◌≡◌, ◌⊎◌, inl, inr, ◌<◌, ℕ, List, length, vec_len, Bool, true, false, Option, refl, sym, ◌∙◌, subst, arith}
use Rattle.lwkt_base.specs.Fault.{no_memory}
use Rattle.lwkt_report.specs.declared.streams.RunFault.TheVariants.{Fault, Stream}
use Rattle.lwkt_checker.specs.LineReading.{left_of, IsNextLine}
use Rattle.lwkt_checker.proofs.FedLines.{is_some, is_none, fed_first, fed_more, Takes, RefusesLine, fed_ended, fed_last, declares_unread, declares_line}
use Rattle.lwkt_checker.proofs.line_checks.feed_lines.Goals as goal
use Rattle.lwkt_checker.proofs.line_checks.feed_lines.Goals.{else-not-is_ended-via-then-not-is_ended+else-is_empty, else-not-is_ended-via-else-not-is_ended}

pub loop-is_ended-init : goal.loop-is_ended-init
loop-is_ended-init g c = record { stage_is = fed_first (left_of c.args.lines.now (g.S.Source.left c.args.source.now)) c.new-judge.result c.new-judge.ensures; unfailed = refl }

pub returns-in-Err-clause-refused : goal.returns-in-Err-clause-refused
returns-in-Err-clause-refused g c =
    let why : (c.in-Err.why ≡ Stream) ⊎ (c.in-Err.why ≡ Fault no_memory) =
    elim c.in-Err.ensures.only [ inl is ↦ inl cc | inr is ↦ inr cc ] in
    declares_unread (left_of c.args.lines.now (g.S.Source.left c.args.source.now)) c.in-Err.why why

pub returns-then-is_empty-clause-stated : goal.returns-then-is_empty-clause-stated
returns-then-is_empty-clause-stated g c =
    let old : Option (List ℕ) = left_of c.loop-is_ended.lines (g.S.Source.left c.loop-is_ended.source) in
    let new : Option (List ℕ) = left_of c.read_line.new.self (g.S.Source.left c.read_line.new.source) in
    let line : List ℕ = c.read_line.new.self.line.items in
    let is : IsNextLine old new line false = subst (λ (b : Bool). IsNextLine old new line b) c.if-not-is_ended.true c.in-Ok.ensures.line in
    let none : length line ≡ 0 = is_none c.is_empty.result (vec_len c.read_line.new.self.line) (length line) c.is_empty.ensures c.if-is_empty.true (omega (arith, c.read_line.new.self.line.ok.0)) in
    fed_ended (left_of c.args.lines.now (g.S.Source.left c.args.source.now)) old new c.loop-is_ended.judge line c.loop-is_ended.invariant.stage_is is none

pub returns-in-Err-feed-clause-refused : goal.returns-in-Err-feed-clause-refused
returns-in-Err-feed-clause-refused g c =
    let old : Option (List ℕ) = left_of c.loop-is_ended.lines (g.S.Source.left c.loop-is_ended.source) in
    let new : Option (List ℕ) = left_of c.read_line.new.self (g.S.Source.left c.read_line.new.source) in
    let line : List ℕ = c.read_line.new.self.line.items in
    let refuses : RefusesLine c.loop-is_ended.judge line c.in-Err-feed.fault =
    subst (λ (l : List ℕ). RefusesLine c.loop-is_ended.judge l c.in-Err-feed.fault) c.as_slice.ensures.value c.in-Err-feed.ensures.refused in
    let some : (c.in-Ok.is_ended ≡ true) ⊎ (0 < length line) =
    elim c.else-not-is_ended.branch [
      | else-not-is_ended-via-then-not-is_ended+else-is_empty w ↦
          inr (is_some w.is_empty.result (vec_len c.read_line.new.self.line) (length line) w.is_empty.ensures w.if-is_empty.false (omega (arith, c.read_line.new.self.line.ok.0)))
      | else-not-is_ended-via-else-not-is_ended w ↦ inl w.if-not-is_ended.false
    ] in
    declares_line (left_of c.args.lines.now (g.S.Source.left c.args.source.now)) old new c.loop-is_ended.judge line c.in-Ok.is_ended c.in-Err-feed.fault c.loop-is_ended.invariant.stage_is c.in-Ok.ensures.line some refuses

pub returns-then-not-is_ended-2-clause-stated : goal.returns-then-not-is_ended-2-clause-stated
returns-then-not-is_ended-2-clause-stated g c =
    let old : Option (List ℕ) = left_of c.loop-is_ended.lines (g.S.Source.left c.loop-is_ended.source) in
    let new : Option (List ℕ) = left_of c.read_line.new.self (g.S.Source.left c.read_line.new.source) in
    let line : List ℕ = c.read_line.new.self.line.items in
    let is : IsNextLine old new line false = subst (λ (b : Bool). IsNextLine old new line b) c.if-not-is_ended-2.true c.in-Ok.ensures.line in
    let takes : Takes c.loop-is_ended.judge line c.in-Ok-feed.after =
    subst (λ (l : List ℕ). Takes c.loop-is_ended.judge l c.in-Ok-feed.after) c.as_slice.ensures.value c.in-Ok-feed.ensures.stated in
    let some : 0 < length line =
    elim c.else-not-is_ended.branch [
      | else-not-is_ended-via-then-not-is_ended+else-is_empty w ↦
          is_some w.is_empty.result (vec_len c.read_line.new.self.line) (length line) w.is_empty.ensures w.if-is_empty.false (omega (arith, c.read_line.new.self.line.ok.0))
      | else-not-is_ended-via-else-not-is_ended w ↦ absurd (let e : true ≡ false = sym w.if-not-is_ended.false ∙ c.if-not-is_ended-2.true in cc)
    ] in
    fed_last (left_of c.args.lines.now (g.S.Source.left c.args.source.now)) old new c.loop-is_ended.judge c.in-Ok-feed.after line c.loop-is_ended.invariant.stage_is is some takes

pub loop-is_ended-preserved : goal.loop-is_ended-preserved
loop-is_ended-preserved g c =
    let old : Option (List ℕ) = left_of c.loop-is_ended.lines (g.S.Source.left c.loop-is_ended.source) in
    let new : Option (List ℕ) = left_of c.read_line.new.self (g.S.Source.left c.read_line.new.source) in
    let line : List ℕ = c.read_line.new.self.line.items in
    let is : IsNextLine old new line true = subst (λ (b : Bool). IsNextLine old new line b) c.if-not-is_ended-2.false c.in-Ok.ensures.line in
    let takes : Takes c.loop-is_ended.judge line c.in-Ok-feed.after =
    subst (λ (l : List ℕ). Takes c.loop-is_ended.judge l c.in-Ok-feed.after) c.as_slice.ensures.value c.in-Ok-feed.ensures.stated in
    record {
      stage_is = fed_more (left_of c.args.lines.now (g.S.Source.left c.args.source.now)) old new c.loop-is_ended.judge c.in-Ok-feed.after line c.loop-is_ended.invariant.stage_is is takes;
      unfailed = c.in-Ok.ensures.ok ∙ c.loop-is_ended.invariant.unfailed;
    }
