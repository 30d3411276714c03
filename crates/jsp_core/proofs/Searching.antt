-- Sessions whose numbers rise: what a binary search finds, and what it leaves when that goes or changes.
use Rattle.std.proofs.Common.{◌≡◌, ℕ, Bool, true, false, not, cond, eqb, List, length, get_or, set, filter, Result, Ok, Err, IfOk, OnErr, sym, refl}
use Rattle.std.specs.Prelude.{map, is_ok}
use Rattle.std.specs.List.{remove, list_any}
use Rattle.std.specs.List.Sorted.{IsSearchInRange, IsBinarySearchResult}
use Rattle.std.specs.Ordering.{nat_cmp}
use Rattle.jsp_wire.specs.declared.ask.Version.{Version}
use Rattle.jsp_model.specs.declared.state.Session.{Session}
use Rattle.jsp_core.specs.Numbering.{AreRising, IsAt, HasNone, versioned}
use Rattle.jsp_core.proofs.ByNumber.{found, absent, none_there, it_is_there, it_goes, it_changes, rise_changed}

abbrev number_of : Session → ℕ
number_of k = k.number

module _ (sessions : List Session) (number : ℕ) where
  pub searched : AreRising sessions → (r : Result ℕ ℕ) → IsSearchInRange r (length sessions) → IsBinarySearchResult (λ (k : Session). nat_cmp k.number number) sessions r
      → record { found : IfOk r (IsAt sessions number); absent : OnErr r (HasNone sessions number) }
  searched up (Ok place) within is = record {
    found = record { within = within; numbered = found number_of number sessions place is };
    absent = tt;
  }
  searched up (Err place) within is = record {
    found = tt;
    absent = absent number_of number sessions place up within is;
  }

  pub has_it : (r : Result ℕ ℕ) → IfOk r (IsAt sessions number) → OnErr r (HasNone sessions number) → is_ok r ≡ list_any (λ (k : Session). eqb k.number number) sessions
  has_it (Ok place) at none = sym (it_is_there number_of number sessions place at.within at.numbered)
  has_it (Err place) at none = sym (none_there number_of number sessions none)

  pub one_goes : (place : ℕ) → AreRising sessions → IsAt sessions number place → filter (λ (k : Session). not (eqb k.number number)) sessions ≡ remove sessions place
  one_goes place up at = it_goes number_of number sessions place up at.within at.numbered

  pub one_changes : (v : Version) (place : ℕ) (k : Session) → AreRising sessions → IsAt sessions number place → k ≡ get_or sessions place k → map (versioned number v) sessions ≡ set sessions place (versioned number v k)
  one_changes v place k up at is = it_changes number_of number (λ (k : Session). record k { version = v }) sessions place k up at.within at.numbered is

  pub all_rise : (v : Version) → AreRising sessions → AreRising (map (versioned number v) sessions)
  all_rise v up = rise_changed number_of (versioned number v) (λ k. kept k (eqb k.number number)) sessions up where
    kept : (k : Session) (b : Bool) → number_of (cond b (record k { version = v }) k) ≡ k.number
    kept k true = refl
    kept k false = refl
