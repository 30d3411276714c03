use Rattle.std.proofs.Common.{◌≡◌, ℕ, ◌↔◌, List, Bool, true, false, IsTrue, sym, ◌∙◌, subst}
use Rattle.std.specs.IoError.{error_kind}
use Rattle.std.specs.declared.io.ErrorKind.TheVariants.{InvalidData}
use Rattle.jsp_frame.specs.Stream.{IsUnfinished}
use Rattle.jsp_frame.proofs.Readings.{AreBytes}
use Rattle.jsp_frame.proofs.Cutting.{not_partial, payload_at_front, wrong_is_too_long, no_payload, no_other_error}
use Rattle.jsp_frame.proofs.front.cut_front.Goals as goal

-- what a failed test says of the buffer that was seen
finished : (limit : ℕ) (bytes seen : List ℕ) (test : Bool) → seen ≡ bytes
    → IsTrue test ↔ IsUnfinished limit seen → test ≡ false → IsUnfinished limit bytes → ⊥
finished limit bytes seen test same value failed unfinished =
    let passed : test ≡ true = value.1 (subst (λ xs. IsUnfinished limit xs) (sym same) unfinished) in
    absurd (cc)

pub unreachable-requires : goal.unreachable-requires
unreachable-requires c =
    let bytes = c.args.buffer.now.items in
    let whole = finished c.args.limit bytes c.as_slice.result.now c.is_unfinished.result c.as_slice.ensures c.is_unfinished.ensures.value c.if-is_unfinished.false in
    let none = rw c.in-Ok-None.field-0-is at c.in-Ok-None.ensures in
    not_partial c.args.codec.now c.decode.new.self c.args.limit bytes c.decode.new.src.items c.requires whole none.next

pub returns-in_ok-into_vec-in-Ok-Some-clause-cut : goal.returns-in_ok-into_vec-in-Ok-Some-clause-cut
returns-in_ok-into_vec-in-Ok-Some-clause-cut c =
    let bytes = c.args.buffer.now.items in
    let whole = finished c.args.limit bytes c.as_slice.result.now c.is_unfinished.result c.as_slice.ensures c.is_unfinished.ensures.value c.if-is_unfinished.false in
    let are_bytes : AreBytes bytes = subst AreBytes c.as_slice.ensures c.is_unfinished.ensures.bytes in
    let some = rw c.in-Ok-Some.field-0-is at c.in-Ok-Some.ensures in
    rw c.in_ok-into_vec-in-Ok-Some.ensures.ok
    (payload_at_front c.args.codec.now c.decode.new.self c.args.limit bytes c.decode.new.src.items c.in-Ok-Some.payload c.requires whole are_bytes some.next)

pub returns-in_err-into_vec-in-Ok-Some-clause-no_frame : goal.returns-in_err-into_vec-in-Ok-Some-clause-no_frame
returns-in_err-into_vec-in-Ok-Some-clause-no_frame c none =
    let bytes = c.args.buffer.now.items in
    let whole = finished c.args.limit bytes c.as_slice.result.now c.is_unfinished.result c.as_slice.ensures c.is_unfinished.ensures.value c.if-is_unfinished.false in
    let some = rw c.in-Ok-Some.field-0-is at c.in-Ok-Some.ensures in
    absurd (no_payload c.args.codec.now c.decode.new.self c.args.limit bytes c.decode.new.src.items c.in-Ok-Some.payload c.requires whole some.next none)

pub returns-in-InvalidData-clause-cut : goal.returns-in-InvalidData-clause-cut
returns-in-InvalidData-clause-cut c =
    let bytes = c.args.buffer.now.items in
    let whole = finished c.args.limit bytes c.as_slice.result.now c.is_unfinished.result c.as_slice.ensures c.is_unfinished.ensures.value c.if-is_unfinished.false in
    let kind : error_kind c.in-Err.e ≡ InvalidData = sym c.kind.ensures ∙ c.in-InvalidData.is in
    wrong_is_too_long c.args.codec.now c.decode.new.self c.args.limit bytes c.decode.new.src.items c.in-Err.e c.requires whole kind c.in-Err.ensures.next

pub returns-in_default : goal.returns-in_default
returns-in_default c =
    let bytes = c.args.buffer.now.items in
    let whole = finished c.args.limit bytes c.as_slice.result.now c.is_unfinished.result c.as_slice.ensures c.is_unfinished.ensures.value c.if-is_unfinished.false in
    record {
      cut = tt;
      codec = tt;
      no_frame = λ none.
          let kind = no_other_error c.args.codec.now c.decode.new.self c.args.limit bytes c.decode.new.src.items c.in-Err.e c.requires whole c.in-Err.ensures.next none in
          absurd (c.in_default.not-InvalidData (c.kind.ensures ∙ kind));
    }
