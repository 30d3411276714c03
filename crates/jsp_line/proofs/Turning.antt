-- What a line reads and asks, turn by turn.
use Rattle.std.proofs.Common.{◌≡◌, ℕ, ◌+◌, false, true≢false, List, [], ◌∷◌, ◌++◌, length, refl, sym, ap, ◌∙◌, subst, append_assoc, append-nil, length-append, arith, inl, inr}
use Rattle.std.specs.Prelude.{Bool, Option, Some, None, IfSome, ◌⊎◌}
use Rattle.std.proofs.KnownBytes.{Consumes-trans, Consumes-nil}
use Rattle.jsp_model.specs.declared.step.Step.{Step}
use Rattle.jsp_wire.specs.declared.ask.Version.TheVariants as version
use Rattle.jsp_drive.specs.Line.{Unheard, start as begin, IsOutOfMemory}
use Rattle.jsp_drive.specs.Giving.{Gave, GaveAll}
use Rattle.jsp_drive.proofs.Splitting.{SplitsInto-nil}
use Rattle.jsp_line.specs.declared.transcript.Transcript.{Transcript}
use Rattle.jsp_line.specs.declared.transcript.Transcript.TheVariants.{NoMemory}
use Rattle.jsp_drive.specs.declared.ended.Ended.{Ended}
use Rattle.jsp_drive.specs.declared.ended.Ended.TheVariants.{End, Failed, Bound, Closing, Cut, Stopped}
use Rattle.jsp_line.specs.Bytes.{IsTranscript}
use Rattle.jsp_line.specs.Reading.{Counts, is_closing, is_acted, Reads}
use Rattle.jsp_line.specs.Turns.{StaysOpen, ReadsOn, ReadsPiece, ActsOne, ActsMore, ActsAll, FaultsOn}

-- ---- the line

-- before the first byte a line gave nothing
gave_start : (s : ℕ) → Gave s [] [] begin
gave_start s = record { payloads = []; rest = []; too_long = false; split = SplitsInto-nil version.One []; asked_is = refl; stands = (refl, refl, refl) }

-- out of memory, a line still gave what it gave
pub gave_stopped : (s : ℕ) (stream : List ℕ) (asked : List Step) (old new : Unheard) → IsOutOfMemory new → Gave s stream asked old → Gave s stream asked new
gave_stopped s stream asked old new out h = record {
  payloads = h.payloads;
  rest = h.rest;
  too_long = h.too_long;
  split = h.split;
  asked_is = h.asked_is;
  stands = rw out tt;
}

-- ---- turns

-- before the first read
pub goes_start : (s : ℕ) (left : Option (List ℕ)) (transcript : Transcript) (line : Unheard) (n : ℕ)
    → IsTranscript transcript [] → (transcript ≡ NoMemory → ⊥) → Gave s [] [] line → StaysOpen s left left transcript line n n
goes_start s left transcript line n kept room gave = record {
  read = [];
  consumed = Consumes-nil left;
  kept = kept;
  room = room;
  asked = [];
  gave = gave;
  counted = omega arith;
  all = (false, record { payloads = []; rest = []; split = SplitsInto-nil version.One []; ended = inl (omega arith); asked_is = refl });
}

-- where the line goes on there is memory for what it keeps
room_here : (old : Transcript) (ended : Option Ended) → (old ≡ NoMemory → ⊥) → (old ≡ NoMemory) ⊎ (ended ≡ Some Stopped) → ended ≡ Some Stopped
room_here old ended room (inl was) = absurd (room was)
room_here old ended room (inr now) = now

room_on : (old new : Transcript) (ended : Option Ended) → (old ≡ NoMemory → ⊥) → (new ≡ NoMemory → (old ≡ NoMemory) ⊎ (ended ≡ Some Stopped)) → new ≡ NoMemory → ended ≡ Some Stopped
room_on old new ended room piece lost = room_here old ended room (piece lost)

-- the line ends at a read
pub ends_reading : (s : ℕ) (start now left : Option (List ℕ)) (old new : Transcript) (line line' : Unheard) (ended : Ended) (n m : ℕ)
    → ReadsPiece now left old new line line' (Some ended)
    → StaysOpen s start now old line n m
    → Reads s start left new ended n m
ends_reading s start now left old new line line' End n m piece on =
    let none = piece.ends.0 in
    record {
      read = on.read ++ piece.piece;
      consumed = Consumes-trans start now left on.read piece.piece on.consumed piece.consumed;
      kept = piece.kept on.read on.kept;
      room = λ e. cc (room_on old new _ on.room piece.room e);
      asked = on.asked;
      line = line';
      gave = piece.fed s on.read on.asked on.gave;
      counted = on.counted;
      all = λ e. rw (none, append-nil on.read) on.all;
      closing = λ e. absurd (cc (e));
      at_end = λ e. piece.ends.1;
    }
ends_reading s start now left old new line line' Failed n m piece on =
    let none = piece.ends in
    record {
      read = on.read ++ piece.piece;
      consumed = Consumes-trans start now left on.read piece.piece on.consumed piece.consumed;
      kept = piece.kept on.read on.kept;
      room = λ e. cc (room_on old new _ on.room piece.room e);
      asked = on.asked;
      line = line';
      gave = piece.fed s on.read on.asked on.gave;
      counted = on.counted;
      all = λ e. rw (none, append-nil on.read) on.all;
      closing = λ e. absurd (cc (e));
      at_end = λ e. absurd (cc (e));
    }
ends_reading s start now left old new line line' Stopped n m piece on =
    record {
      read = on.read ++ piece.piece;
      consumed = Consumes-trans start now left on.read piece.piece on.consumed piece.consumed;
      kept = piece.kept on.read on.kept;
      room = λ e. cc (room_on old new _ on.room piece.room e);
      asked = on.asked;
      line = line';
      gave = piece.fed s on.read on.asked on.gave;
      counted = inl on.counted;
      all = λ e. absurd (cc (e));
      closing = λ e. absurd (cc (e));
      at_end = λ e. absurd (cc (e));
    }
ends_reading s start now left old new line line' Bound n m piece on = absurd piece.ends
ends_reading s start now left old new line line' Closing n m piece on = absurd piece.ends
ends_reading s start now left old new line line' Cut n m piece on = absurd piece.ends

-- the count of a line that began earlier
counts_more : (ended : Ended) (n m k a b : ℕ) → m ≡ n + a → Counts ended m k b → Counts ended n k (a + b)
counts_more End n m k a b up h = omega (arith, up, h)
counts_more Failed n m k a b up h = omega (arith, up, h)
counts_more Bound n m k a b up h = omega (arith, up, h)
counts_more Closing n m k a b up h = omega (arith, up, h)
counts_more Cut n m k a b up h = omega (arith, up, h)
counts_more Stopped n m k a b up (inl h) = inl (omega (arith, up, h))
counts_more Stopped n m k a b up (inr h) = inr (omega (arith, up, h))

-- a piece came and was acted
pub goes_turn : (s : ℕ) (start now left : Option (List ℕ)) (old mid new : Transcript) (line fed line' : Unheard) (ended : Option Ended) (n m k : ℕ)
    → ReadsPiece now left old mid line fed None
    → ((stream : List ℕ) (asked : List Step) → Gave s stream asked fed → ActsAll ended s stream asked line' m k)
    → ((all : List ℕ) → IsTranscript mid all → IsTranscript new all)
    → (new ≡ NoMemory → mid ≡ NoMemory)
    → StaysOpen s start now old line n m
    → ReadsOn s start left new line' ended n k
goes_turn s start now left old mid new line fed line' None n m k piece acts kept room on =
    let read = on.read ++ piece.piece in
    let a = acts read on.asked (piece.fed s on.read on.asked on.gave) in
    record {
      read = read;
      consumed = Consumes-trans start now left on.read piece.piece on.consumed piece.consumed;
      kept = kept read (piece.kept on.read on.kept);
      room = λ e. absurd (cc (room_on old mid None on.room piece.room (room e)));
      asked = on.asked ++ a.0.more;
      gave = a.0.gave;
      counted = omega (arith, on.counted, a.0.counted, length-append on.asked a.0.more);
      all = (a.1, a.2);
    }
goes_turn s start now left old mid new line fed line' (Some ended) n m k piece acts kept room on =
    let read = on.read ++ piece.piece in
    let (early, more, gave, counted, closing) = acts read on.asked (piece.fed s on.read on.asked on.gave) in
    record {
      read = read;
      consumed = Consumes-trans start now left on.read piece.piece on.consumed piece.consumed;
      kept = kept read (piece.kept on.read on.kept);
      room = λ e. absurd (cc (room_on old mid None on.room piece.room (room e)));
      asked = on.asked ++ more;
      line = line';
      gave = gave;
      counted = subst (Counts ended n k) (sym (length-append on.asked more)) (counts_more ended n m k (length on.asked) (length more) on.counted counted);
      all = λ e. absurd (cc (e, early));
      closing = closing;
      at_end = λ e. absurd (cc (e, early));
    }

-- no turn is left
pub ends_bound : (s : ℕ) (start left : Option (List ℕ)) (transcript : Transcript) (line : Unheard) (n m : ℕ) → StaysOpen s start left transcript line n m → Reads s start left transcript Bound n m
ends_bound s start left transcript line n m on = record {
  read = on.read;
  consumed = on.consumed;
  kept = on.kept;
  room = λ e. absurd (on.room e);
  asked = on.asked;
  line = line;
  gave = on.gave;
  counted = on.counted;
  all = λ e. on.all;
  closing = λ e. absurd (cc (e));
  at_end = λ e. absurd (cc (e));
}

-- no turn was taken, and nothing was read
pub reads_nothing : (s : ℕ) (left : Option (List ℕ)) (transcript : Transcript) → IsTranscript transcript [] → (transcript ≡ NoMemory → ⊥) → Reads s left left transcript Bound 0 0
reads_nothing s left transcript kept room = ends_bound s left left transcript begin 0 0 (goes_start s left transcript begin 0 kept room (gave_start s))

-- ---- the acts of a piece

pub acts_none : (s : ℕ) (stream : List ℕ) (asked : List Step) (line : Unheard) (n : ℕ) → Gave s stream asked line → ActsMore s stream asked line n n
acts_none s stream asked line n gave = record { more = []; gave = rw (append-nil asked) gave; counted = omega arith }

pub acts_more : (s : ℕ) (stream : List ℕ) (asked : List Step) (line line' : Unheard) (n m k : ℕ) (x : Step)
    → (w : ActsMore s stream asked line n m) → Gave s stream ((asked ++ w.more) ++ x ∷ []) line' → k ≡ m + 1 → ActsMore s stream asked line' n k
acts_more s stream asked line line' n m k x w gave up = record {
  more = w.more ++ x ∷ [];
  gave = rw (← append_assoc asked w.more (x ∷ [])) gave;
  counted = omega (arith, up, w.counted, length-append w.more (x ∷ []));
}

-- the last input ends the line
pub acts_end : (s : ℕ) (stream : List ℕ) (asked : List Step) (line line' : Unheard) (n m k : ℕ) (x : Step) (ended : Ended) (closing : Bool)
    → (w : ActsMore s stream asked line n m) → Gave s stream ((asked ++ w.more) ++ x ∷ []) line' → closing ≡ is_closing x
    → ActsOne (Some ended) closing m k → ActsAll (Some ended) s stream asked line' n k
acts_end s stream asked line line' n m k x Closing closing w gave is one = (
  refl,
  w.more ++ x ∷ [],
  rw (← append_assoc asked w.more (x ∷ [])) gave,
  omega (arith, one.0, w.counted, length-append w.more (x ∷ [])),
  λ e. (asked ++ w.more, x, sym (append_assoc asked w.more (x ∷ [])), sym is ∙ one.1),
)
acts_end s stream asked line line' n m k x Cut closing w gave is one = (
  refl,
  w.more ++ x ∷ [],
  rw (← append_assoc asked w.more (x ∷ [])) gave,
  omega (arith, one, w.counted, length-append w.more (x ∷ [])),
  λ e. absurd (cc (e)),
)
acts_end s stream asked line line' n m k x Stopped closing w gave is (inl one) = (
  refl,
  w.more ++ x ∷ [],
  rw (← append_assoc asked w.more (x ∷ [])) gave,
  inr (omega (arith, one, w.counted, length-append w.more (x ∷ []))),
  λ e. absurd (cc (e)),
)
acts_end s stream asked line line' n m k x Stopped closing w gave is (inr one) = (
  refl,
  w.more ++ x ∷ [],
  rw (← append_assoc asked w.more (x ∷ [])) gave,
  inl (omega (arith, one, w.counted, length-append w.more (x ∷ []))),
  λ e. absurd (cc (e)),
)
acts_end s stream asked line line' n m k x End closing w gave is one = absurd one
acts_end s stream asked line line' n m k x Failed closing w gave is one = absurd one
acts_end s stream asked line line' n m k x Bound closing w gave is one = absurd one

-- the line has no memory for what comes next
pub acts_stopped : (s : ℕ) (stream : List ℕ) (asked : List Step) (line line' : Unheard) (n m : ℕ)
    → IsOutOfMemory line' → (w : ActsMore s stream asked line n m) → ActsAll (Some Stopped) s stream asked line' n m
acts_stopped s stream asked line line' n m out w = (refl, w.more, gave_stopped s stream (asked ++ w.more) line line' out w.gave, inl w.counted, λ e. absurd (cc (e)))

-- all that the line gives was acted
pub acts_all : (s : ℕ) (stream : List ℕ) (asked : List Step) (line line' : Unheard) (n m : ℕ) (too_long : Bool)
    → (w : ActsMore s stream asked line n m) → Gave s stream (asked ++ w.more) line' → GaveAll s stream (asked ++ w.more) too_long
    → ActsAll None s stream asked line' n m
acts_all s stream asked line line' n m too_long w gave all = (record { more = w.more; gave = gave; counted = w.counted }, too_long, all)

-- ---- why a line ends

pub acts_early : (ended : Ended) (closing : Bool) (n m : ℕ) → ActsOne (Some ended) closing n m → is_acted ended ≡ false
acts_early Closing closing n m one = refl
acts_early Cut closing n m one = refl
acts_early Stopped closing n m one = refl
acts_early End closing n m one = absurd one
acts_early Failed closing n m one = absurd one
acts_early Bound closing n m one = absurd one

-- no read failed where an input ended the line
pub no_fault : (ended : Option Ended) (n m : ℕ) → IfSome ended (λ e. is_acted e ≡ false) → m ≡ n → FaultsOn ended n m
no_fault None n m early same = same
no_fault (Some Closing) n m early same = same
no_fault (Some Cut) n m early same = same
no_fault (Some Stopped) n m early same = same
no_fault (Some End) n m early same = same
no_fault (Some Failed) n m early same = absurd (true≢false early)
no_fault (Some Bound) n m early same = same

-- a line that ended before all was acted didn't end at its bound
pub not_at_bound : (ended : Option Ended) → IfSome ended (λ e. is_acted e ≡ false) → IfSome ended (λ e. e ≡ Bound → ⊥)
not_at_bound None early = tt
not_at_bound (Some e) early = λ is. true≢false (sym (ap is_acted is) ∙ early)
