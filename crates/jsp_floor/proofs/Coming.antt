-- Lines that came through a door.
use Rattle.std.proofs.Common.{◌≡◌, ℕ, Bool, true, false, not, cond, List, [], ◌∷◌, ◌++◌, get_or, refl, sym, subst}
use Rattle.std.specs.Prelude.{◌&&◌, nat_lt, All, Option, None, Vec}
use Rattle.std.specs.declared.alloc.Global.{Global}
use Rattle.std.proofs.lemmas.List.Elements.{All-push}
use Rattle.std.proofs.lemmas.List.Sorted.{All-permutation}
use Rattle.jsp_model.specs.declared.house.Why.{Why}
use Rattle.jsp_drive.specs.declared.ended.Ended.{Ended}
use Rattle.jsp_drive.specs.declared.era.Era.{Era}
use Rattle.jsp_line.specs.declared.answer_writer.Health.{Health}
use Rattle.jsp_line.specs.declared.transcript.Transcript.{Transcript}
use Rattle.jsp_line.specs.declared.transcript.Transcript.TheVariants.{Whole}
use Rattle.jsp_line.specs.Reading.{Faults, Reads}
use Rattle.jsp_line.specs.Writing.{Writes}
use Rattle.jsp_closing.specs.Closing.{IsOf}
use Rattle.jsp_closing.specs.declared.closed.Closed.{Closed}
use Rattle.jsp_closing.specs.declared.closed.Closed.TheVariants as closed
use Rattle.jsp_closing.specs.declared.closed.LineReport.{LineReport}
use Rattle.jsp_floor.specs.Served.{found_memory, has_answered, is_short, report_of}
use Rattle.jsp_floor.specs.Doors.{AreServed, ComeThrough, IsServed, MayCome}

right_of : (a b : Bool) → (a && b) ≡ true → b ≡ true
right_of true b both = both
right_of false b both = absurd (cc)

-- where all found memory, each answer did
answered : (read other : Option Why) (health : Health) → found_memory read other health ≡ true → has_answered health ≡ true
answered read other health found = right_of (not (is_short other)) (has_answered health) (right_of (not (is_short read)) (not (is_short other) && has_answered health) found)

-- what is true of each is so of one more, where there is room for it
pub all_more : {X : Type 0} → (P : X → Type 0) (old new : List X) (x : X) (ok : Bool) → new ≡ cond ok (old ++ x ∷ []) old → All P old → P x → All P new
all_more P old new x true is all one = subst (All P) (sym is) (All-push P old x all one)
all_more P old new x false is all one = subst (All P) (sym is) all

-- a report whose parts are these
pub same_report : (line : LineReport) (session : ℕ) (whole : Bool) (ended : Ended) (read_failed write_failed by_house : Bool)
    → line.session ≡ session → line.is_whole ≡ whole → line.ended ≡ ended → line.read_failed ≡ read_failed → line.write_failed ≡ write_failed → line.shut_by_house ≡ by_house
    → report_of session whole ended line.read line.written read_failed write_failed by_house ≡ line
same_report line session whole ended read_failed write_failed by_house a b c d e f = rw (← a, ← b, ← c, ← d, ← e, ← f) refl

-- what is reported of a line that was served
pub may_come : {R W : Type 0} → (gives : R → W → Type 0) (remaining : R → Option (List ℕ)) (contents : W → Option (List ℕ))
    → (reader : R) (writer : W) (left behind : Option (List ℕ)) (session : ℕ) (ended : Ended) (why other : Option Why) (health : Health)
    → (failed_reads failed_writes asked taken : ℕ) (read_all written_all : Transcript) (read written : Vec ℕ Global) (by_house : Bool)
    → gives reader writer
    → Reads session (remaining reader) left read_all ended 0 asked
    → Faults ended 0 failed_reads
    → Writes (contents writer) behind taken health failed_writes written_all
    → read_all ≡ Whole read → written_all ≡ Whole written
    → MayCome gives remaining contents (report_of session (found_memory why other health) ended read written (nat_lt 0 failed_reads) (nat_lt 0 failed_writes) by_house)
may_come gives remaining contents reader writer left behind session ended why other health failed_reads failed_writes asked taken read_all written_all read written by_house given reads faults writes at at' = λ whole. record {
  reader = reader;
  writer = writer;
  given = given;
  served = record {
    left = left;
    behind = behind;
    asked = asked;
    taken = taken;
    failed_reads = failed_reads;
    failed_writes = failed_writes;
    health = health;
    reads = subst (λ (t : Transcript). Reads session (remaining reader) left t ended 0 asked) at reads;
    faults = faults;
    writes = subst (λ (t : Transcript). Writes (contents writer) behind taken health failed_writes t) at' writes;
    answered = answered why other health whole;
    read_failed = refl;
    write_failed = refl;
  };
}

-- the lines of what is answered are those that were reported
pub come_through : {R W : Type 0} → (gives : R → W → Type 0) (remaining : R → Option (List ℕ)) (contents : W → Option (List ℕ)) (era : Era) (reports : List LineReport) (closed : Closed)
    → All (MayCome gives remaining contents) reports → IsOf era reports closed → ComeThrough gives remaining contents closed
come_through gives remaining contents era reports (closed.Whole steps lines) all h = All-permutation (MayCome gives remaining contents) reports lines.items h.1 all
come_through gives remaining contents era reports (closed.Sealed steps) all h = tt

-- where nothing is known of the bytes of readers and writers
pub are_served : {R W : Type 0} → (gives : R → W → Type 0) (remaining : R → Option (List ℕ)) (contents : W → Option (List ℕ))
    → ((reader : R) → remaining reader ≡ None) → ((writer : W) → contents writer ≡ None)
    → (closed : Closed) → ComeThrough gives remaining contents closed → AreServed closed
are_served gives remaining contents no_reader no_writer (closed.Whole steps lines) all = λ k d lt whole.
    let line : LineReport = get_or lines.items k d in
    let came = all k d lt whole in
    subst (λ (from : Option (List ℕ)). IsServed from None line) (no_reader came.reader)
    (subst (λ (to : Option (List ℕ)). IsServed (remaining came.reader) to line) (no_writer came.writer) came.served)
are_served gives remaining contents no_reader no_writer (closed.Sealed steps) all = tt
