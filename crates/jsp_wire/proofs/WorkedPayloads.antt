-- A few payloads, computed.
use Rattle.std.proofs.Common.{◌≡◌, ℕ, List, [], ◌∷◌, ◌++◌, replicate, codes, pos, negsuc, None, Some, refl}
use Rattle.std.specs.List.{repeat}
use Rattle.std.specs.Str.{is_utf8, chars}
use Rattle.std.specs.Char.{encode_utf8}
use Rattle.serde_json.proofs.OnLiterals.{serde_json_on_literals}
use Rattle.jsp_types.specs.declared.value.Kind.TheVariants as kind
use Rattle.jsp_types.specs.declared.value.Value.TheVariants as value
use Rattle.jsp_wire.specs.declared.ask.Ask.TheVariants as ask
use Rattle.jsp_wire.specs.declared.ask.Version.TheVariants as version
use Rattle.jsp_wire.specs.Parts.{raw_of}
use Rattle.jsp_wire.specs.Operations.{declare_of, write_of, search_of, notify_of, renew_of, cancel_of, renew_all_of, cancel_all_of, begin_of, transaction_of, reset_of, keyless_of, hello_of, write_all_of, take_many_of, contents_of, next_of, close_set_of, added_of, ask_of}
use Rattle.jsp_wire.specs.Reading.{request, bad_json, bad_request, request_of, reading}

unknown_key : reading version.One (codes "{\"id\":5,\"op\":\"declare\",\"class\":\"J\",\"fields\":{},\"x\":1}") ≡ bad_request (Some 5)
unfolding serde_json_on_literals is_utf8 chars encode_utf8 reading request_of ask_of declare_of
unknown_key = refl

no_id : reading version.One (codes "{\"id\":-1,\"op\":\"bye\"}") ≡ bad_request None
unfolding serde_json_on_literals is_utf8 chars encode_utf8 reading request_of
no_id = refl

no_json : reading version.One (codes "{\"id\":5") ≡ bad_json
unfolding serde_json_on_literals is_utf8 chars encode_utf8 reading
no_json = refl

a_declaration : reading version.One (codes "{\"id\":0, \"op\":\"declare\",\"class\":\"J\",\"fields\":{\"k\":\"int\",\"b\":\"float\"}} ")
    ≡ request (record { id = 0; ask = ask.Declare (record { class = codes "J"; parent = None; fields = (codes "b", None) ∷ (codes "k", Some kind.Int) ∷ [] }) })
unfolding serde_json_on_literals is_utf8 chars encode_utf8 reading request_of ask_of declare_of
a_declaration = refl

a_write : reading version.One (codes "{\"id\":2,\"op\":\"write\",\"space\":\"a\",\"entry\":{\"class\":\"J\",\"fields\":{\"k\":null}},\"lease\":9}")
    ≡ request (record { id = 2; ask = ask.Write (record { space = codes "a"; entry = record { class = codes "J"; fields = (codes "k", value.Null) ∷ [] }; lease = pos 9; txn = None }) })
unfolding serde_json_on_literals is_utf8 chars encode_utf8 reading request_of ask_of write_of raw_of
a_write = refl

the_spaces : reading version.One (codes "{\"id\":3,\"op\":\"spaces\"}") ≡ request (record { id = 3; ask = ask.Spaces })
unfolding serde_json_on_literals is_utf8 chars encode_utf8 reading request_of ask_of keyless_of
the_spaces = refl

a_goodbye_of_more : reading version.One (codes "{\"id\":3,\"op\":\"bye\",\"x\":1}") ≡ bad_request (Some 3)
unfolding serde_json_on_literals is_utf8 chars encode_utf8 reading request_of ask_of keyless_of
a_goodbye_of_more = refl

a_take : reading version.One (codes "{\"id\":3,\"op\":\"take\",\"space\":\"a\",\"template\":{\"class\":\"J\",\"fields\":{\"k\":1}},\"timeout\":0,\"txn\":null}")
    ≡ request (record { id = 3; ask = ask.Take (record { space = codes "a"; template = Some (record { class = codes "J"; fields = (codes "k", value.Int (pos 1)) ∷ [] }); timeout = pos 0; txn = None }) })
unfolding serde_json_on_literals is_utf8 chars encode_utf8 reading request_of ask_of search_of raw_of
a_take = refl

a_take_that_waits : reading version.One (codes "{\"id\":3,\"op\":\"take\",\"space\":\"a\",\"template\":null,\"timeout\":60000,\"txn\":7}")
    ≡ request (record { id = 3; ask = ask.Take (record { space = codes "a"; template = None; timeout = pos 60000; txn = Some (pos 7) }) })
unfolding serde_json_on_literals is_utf8 chars encode_utf8 reading request_of ask_of search_of
a_take_that_waits = refl

a_take_without_a_template : reading version.One (codes "{\"id\":3,\"op\":\"take\",\"space\":\"a\",\"timeout\":0}") ≡ bad_request (Some 3)
unfolding serde_json_on_literals is_utf8 chars encode_utf8 reading request_of ask_of search_of
a_take_without_a_template = refl

-- a negative number is a number as others
a_read_for_a_negative_time : reading version.One (codes "{\"id\":3,\"op\":\"read\",\"space\":\"a\",\"template\":null,\"timeout\":-1}")
    ≡ request (record { id = 3; ask = ask.Read (record { space = codes "a"; template = None; timeout = negsuc 0; txn = None }) })
unfolding serde_json_on_literals is_utf8 chars encode_utf8 reading request_of ask_of search_of
a_read_for_a_negative_time = refl

a_read_without_a_timeout : reading version.One (codes "{\"id\":3,\"op\":\"read\",\"space\":\"a\",\"template\":null}") ≡ bad_request (Some 3)
unfolding serde_json_on_literals is_utf8 chars encode_utf8 reading request_of ask_of search_of
a_read_without_a_timeout = refl

a_read_if : reading version.One (codes "{\"id\":3,\"op\":\"read_if\",\"space\":\"a\",\"template\":null,\"timeout\":9,\"txn\":-7}")
    ≡ request (record { id = 3; ask = ask.ReadIf (record { space = codes "a"; template = None; timeout = pos 9; txn = Some (negsuc 6) }) })
unfolding serde_json_on_literals is_utf8 chars encode_utf8 reading request_of ask_of search_of
a_read_if = refl

a_read_if_for_null : reading version.One (codes "{\"id\":3,\"op\":\"read_if\",\"space\":\"a\",\"template\":null,\"timeout\":null}") ≡ bad_request (Some 3)
unfolding serde_json_on_literals is_utf8 chars encode_utf8 reading request_of ask_of search_of
a_read_if_for_null = refl

a_take_if : reading version.One (codes "{\"id\":3,\"op\":\"take_if\",\"space\":\"a\",\"template\":null,\"timeout\":0}")
    ≡ request (record { id = 3; ask = ask.TakeIf (record { space = codes "a"; template = None; timeout = pos 0; txn = None }) })
unfolding serde_json_on_literals is_utf8 chars encode_utf8 reading request_of ask_of search_of
a_take_if = refl

a_take_if_of_more : reading version.One (codes "{\"id\":3,\"op\":\"take_if\",\"space\":\"a\",\"template\":null,\"timeout\":0,\"most\":2}") ≡ bad_request (Some 3)
unfolding serde_json_on_literals is_utf8 chars encode_utf8 reading request_of ask_of search_of
a_take_if_of_more = refl

a_write_for_any_time : reading version.One (codes "{\"id\":2,\"op\":\"write\",\"space\":\"a\",\"entry\":{\"class\":\"J\",\"fields\":{}},\"lease\":-1}")
    ≡ request (record { id = 2; ask = ask.Write (record { space = codes "a"; entry = record { class = codes "J"; fields = [] }; lease = negsuc 0; txn = None }) })
unfolding serde_json_on_literals is_utf8 chars encode_utf8 reading request_of ask_of write_of raw_of
a_write_for_any_time = refl

a_write_under_a_transaction : reading version.One (codes "{\"id\":2,\"op\":\"write\",\"space\":\"a\",\"entry\":{\"class\":\"J\",\"fields\":{}},\"lease\":9,\"txn\":7}")
    ≡ request (record { id = 2; ask = ask.Write (record { space = codes "a"; entry = record { class = codes "J"; fields = [] }; lease = pos 9; txn = Some (pos 7) }) })
unfolding serde_json_on_literals is_utf8 chars encode_utf8 reading request_of ask_of write_of raw_of
a_write_under_a_transaction = refl

a_write_under_a_text : reading version.One (codes "{\"id\":2,\"op\":\"write\",\"space\":\"a\",\"entry\":{\"class\":\"J\",\"fields\":{}},\"lease\":9,\"txn\":\"7\"}") ≡ bad_request (Some 2)
unfolding serde_json_on_literals is_utf8 chars encode_utf8 reading request_of ask_of write_of raw_of
a_write_under_a_text = refl

a_renewal : reading version.One (codes "{\"id\":4,\"op\":\"renew\",\"lease\":7,\"ms\":9}") ≡ request (record { id = 4; ask = ask.Renew (pos 7) (pos 9) })
unfolding serde_json_on_literals is_utf8 chars encode_utf8 reading request_of ask_of renew_of
a_renewal = refl

a_cancel_without_a_number : reading version.One (codes "{\"id\":4,\"op\":\"cancel\",\"lease\":null}") ≡ bad_request (Some 4)
unfolding serde_json_on_literals is_utf8 chars encode_utf8 reading request_of ask_of cancel_of
a_cancel_without_a_number = refl

renewals : reading version.One (codes "{\"id\":4,\"op\":\"renew_all\",\"leases\":[[7,9],[6,-1]]}")
    ≡ request (record { id = 4; ask = ask.RenewAll ((pos 7, pos 9) ∷ (pos 6, negsuc 0) ∷ []) })
unfolding serde_json_on_literals is_utf8 chars encode_utf8 reading request_of ask_of renew_all_of
renewals = refl

a_pair_of_three : reading version.One (codes "{\"id\":4,\"op\":\"renew_all\",\"leases\":[[7,9,1]]}") ≡ bad_request (Some 4)
unfolding serde_json_on_literals is_utf8 chars encode_utf8 reading request_of ask_of renew_all_of
a_pair_of_three = refl

cancels : reading version.One (codes "{\"id\":4,\"op\":\"cancel_all\",\"leases\":[7,6]}") ≡ request (record { id = 4; ask = ask.CancelAll (pos 7 ∷ pos 6 ∷ []) })
unfolding serde_json_on_literals is_utf8 chars encode_utf8 reading request_of ask_of cancel_all_of
cancels = refl

an_empty_list : reading version.One (codes "{\"id\":4,\"op\":\"cancel_all\",\"leases\":[]}") ≡ bad_request (Some 4)
unfolding serde_json_on_literals is_utf8 chars encode_utf8 reading request_of ask_of cancel_all_of
an_empty_list = refl

a_registration : reading version.One (codes "{\"id\":6,\"op\":\"notify\",\"space\":\"a\",\"template\":null,\"lease\":-1,\"handback\":\"h\",\"txn\":7}")
    ≡ request (record { id = 6; ask = ask.Notify (record { space = codes "a"; template = None; lease = negsuc 0; handback = codes "h"; txn = Some (pos 7) }) })
unfolding serde_json_on_literals is_utf8 chars encode_utf8 reading request_of ask_of notify_of
a_registration = refl

a_registration_without_handback : reading version.One (codes "{\"id\":6,\"op\":\"notify\",\"space\":\"a\",\"template\":null,\"lease\":9}") ≡ bad_request (Some 6)
unfolding serde_json_on_literals is_utf8 chars encode_utf8 reading request_of ask_of notify_of
a_registration_without_handback = refl

-- a registration with that handback
abbrev registration_of : List ℕ → List ℕ
registration_of handback = codes "{\"id\":6,\"op\":\"notify\",\"space\":\"a\",\"template\":null,\"lease\":9,\"handback\":\"" ++ handback ++ codes "\"}"

the_longest_handback : reading version.One (registration_of (replicate 256 104))
    ≡ request (record { id = 6; ask = ask.Notify (record { space = codes "a"; template = None; lease = pos 9; handback = replicate 256 104; txn = None }) })
unfolding serde_json_on_literals is_utf8 chars encode_utf8 reading request_of ask_of notify_of
the_longest_handback = refl

a_longer_handback : reading version.One (registration_of (replicate 257 104)) ≡ bad_request (Some 6)
unfolding serde_json_on_literals is_utf8 chars encode_utf8 reading request_of ask_of notify_of
a_longer_handback = refl

-- the bytes of the text count, and not its characters or how the payload writes them
the_longest_handback_in_pairs : reading version.One (registration_of (repeat 128 (codes "\\u00e9")))
    ≡ request (record { id = 6; ask = ask.Notify (record { space = codes "a"; template = None; lease = pos 9; handback = repeat 128 (195 ∷ 169 ∷ []); txn = None }) })
unfolding serde_json_on_literals is_utf8 chars encode_utf8 reading request_of ask_of notify_of
the_longest_handback_in_pairs = refl

a_longer_handback_in_pairs : reading version.One (registration_of (repeat 129 (codes "\\u00e9"))) ≡ bad_request (Some 6)
unfolding serde_json_on_literals is_utf8 chars encode_utf8 reading request_of ask_of notify_of
a_longer_handback_in_pairs = refl

a_transaction : reading version.One (codes "{\"id\":7,\"op\":\"txn\",\"lease\":60000}") ≡ request (record { id = 7; ask = ask.Txn (pos 60000) })
unfolding serde_json_on_literals is_utf8 chars encode_utf8 reading request_of ask_of begin_of
a_transaction = refl

a_transaction_without_a_lease : reading version.One (codes "{\"id\":7,\"op\":\"txn\"}") ≡ bad_request (Some 7)
unfolding serde_json_on_literals is_utf8 chars encode_utf8 reading request_of ask_of begin_of
a_transaction_without_a_lease = refl

a_commit : reading version.One (codes "{\"id\":8,\"op\":\"commit\",\"txn\":7}") ≡ request (record { id = 8; ask = ask.Commit (pos 7) })
unfolding serde_json_on_literals is_utf8 chars encode_utf8 reading request_of ask_of transaction_of
a_commit = refl

a_commit_of_null : reading version.One (codes "{\"id\":8,\"op\":\"commit\",\"txn\":null}") ≡ bad_request (Some 8)
unfolding serde_json_on_literals is_utf8 chars encode_utf8 reading request_of ask_of transaction_of
a_commit_of_null = refl

an_abort : reading version.One (codes "{\"id\":8,\"op\":\"abort\",\"txn\":-7}") ≡ request (record { id = 8; ask = ask.Abort (negsuc 6) })
unfolding serde_json_on_literals is_utf8 chars encode_utf8 reading request_of ask_of transaction_of
an_abort = refl

an_abort_of_nothing : reading version.One (codes "{\"id\":8,\"op\":\"abort\"}") ≡ bad_request (Some 8)
unfolding serde_json_on_literals is_utf8 chars encode_utf8 reading request_of ask_of transaction_of
an_abort_of_nothing = refl

a_state : reading version.One (codes "{\"id\":8,\"op\":\"state\",\"txn\":7}") ≡ request (record { id = 8; ask = ask.State (pos 7) })
unfolding serde_json_on_literals is_utf8 chars encode_utf8 reading request_of ask_of transaction_of
a_state = refl

a_state_of_a_lease : reading version.One (codes "{\"id\":8,\"op\":\"state\",\"txn\":7,\"lease\":7}") ≡ bad_request (Some 8)
unfolding serde_json_on_literals is_utf8 chars encode_utf8 reading request_of ask_of transaction_of
a_state_of_a_lease = refl

a_reset : reading version.One (codes "{\"id\":9,\"op\":\"reset\",\"space\":\"a\"}") ≡ request (record { id = 9; ask = ask.Reset (codes "a") })
unfolding serde_json_on_literals is_utf8 chars encode_utf8 reading request_of ask_of reset_of
a_reset = refl

a_reset_of_a_number : reading version.One (codes "{\"id\":9,\"op\":\"reset\",\"space\":1}") ≡ bad_request (Some 9)
unfolding serde_json_on_literals is_utf8 chars encode_utf8 reading request_of ask_of reset_of
a_reset_of_a_number = refl

-- ---- versions

to_version_two : reading version.One (codes "{\"id\":9,\"op\":\"hello\",\"version\":2}") ≡ request (record { id = 9; ask = ask.Hello version.Two })
unfolding serde_json_on_literals is_utf8 chars encode_utf8 reading request_of ask_of hello_of
to_version_two = refl

back_to_version_one : reading version.Two (codes "{\"id\":9,\"op\":\"hello\",\"version\":1}") ≡ request (record { id = 9; ask = ask.Hello version.One })
unfolding serde_json_on_literals is_utf8 chars encode_utf8 reading request_of ask_of hello_of
back_to_version_one = refl

to_version_three : reading version.Two (codes "{\"id\":9,\"op\":\"hello\",\"version\":3}") ≡ bad_request (Some 9)
unfolding serde_json_on_literals is_utf8 chars encode_utf8 reading request_of ask_of hello_of
to_version_three = refl

-- what version 1 has, version 2 has too
the_spaces_in_two : reading version.Two (codes "{\"id\":3,\"op\":\"spaces\"}") ≡ request (record { id = 3; ask = ask.Spaces })
unfolding serde_json_on_literals is_utf8 chars encode_utf8 reading request_of ask_of keyless_of
the_spaces_in_two = refl

no_such_operation : reading version.Two (codes "{\"id\":3,\"op\":\"list\"}") ≡ bad_request (Some 3)
unfolding serde_json_on_literals is_utf8 chars encode_utf8 reading request_of ask_of added_of
no_such_operation = refl

-- ---- what version 2 adds

abbrev two_writes : List ℕ
two_writes = codes "{\"id\":3,\"op\":\"write_all\",\"space\":\"a\",\"entries\":[{\"class\":\"J\",\"fields\":{}},{\"class\":\"J\",\"fields\":{\"k\":1}}],\"lease\":9}"

writes_together : reading version.Two two_writes
    ≡ request (record { id = 3; ask = ask.WriteAll (record { space = codes "a"; entries = record { class = codes "J"; fields = [] } ∷ record { class = codes "J"; fields = (codes "k", value.Int (pos 1)) ∷ [] } ∷ []; lease = pos 9; txn = None }) })
unfolding serde_json_on_literals is_utf8 chars encode_utf8 reading request_of ask_of added_of write_all_of raw_of
writes_together = refl

writes_together_in_version_one : reading version.One two_writes ≡ bad_request (Some 3)
unfolding serde_json_on_literals is_utf8 chars encode_utf8 reading request_of ask_of added_of
writes_together_in_version_one = refl

-- a request to write so many entries together
abbrev writing : ℕ → List ℕ
writing n = codes "{\"id\":3,\"op\":\"write_all\",\"space\":\"a\",\"entries\":[{\"class\":\"J\",\"fields\":{}}" ++ repeat n (codes ",{\"class\":\"J\",\"fields\":{}}") ++ codes "],\"lease\":9}"

the_most_writes : reading version.Two (writing 63)
    ≡ request (record { id = 3; ask = ask.WriteAll (record { space = codes "a"; entries = replicate 64 (record { class = codes "J"; fields = [] }); lease = pos 9; txn = None }) })
unfolding serde_json_on_literals is_utf8 chars encode_utf8 reading request_of ask_of added_of write_all_of raw_of
the_most_writes = refl

a_write_more : reading version.Two (writing 64) ≡ bad_request (Some 3)
unfolding serde_json_on_literals is_utf8 chars encode_utf8 reading request_of ask_of added_of write_all_of raw_of
a_write_more = refl

no_writes_together : reading version.Two (codes "{\"id\":3,\"op\":\"write_all\",\"space\":\"a\",\"entries\":[],\"lease\":9}") ≡ bad_request (Some 3)
unfolding serde_json_on_literals is_utf8 chars encode_utf8 reading request_of ask_of added_of write_all_of raw_of
no_writes_together = refl

-- a request for at most so many rows by these templates
abbrev taking : List ℕ → List ℕ → List ℕ
taking templates most = codes "{\"id\":3,\"op\":\"take_many\",\"space\":\"a\",\"templates\":[" ++ templates ++ codes "],\"most\":" ++ most ++ codes ",\"timeout\":0}"

takes_together : reading version.Two (taking (codes "null,{\"class\":\"J\",\"fields\":{}}") (codes "16"))
    ≡ request (record { id = 3; ask = ask.TakeMany (record { space = codes "a"; templates = None ∷ Some (record { class = codes "J"; fields = [] }) ∷ []; most = 16; timeout = pos 0; txn = None }) })
unfolding serde_json_on_literals is_utf8 chars encode_utf8 reading request_of ask_of added_of take_many_of raw_of
takes_together = refl

seventeen_takes : reading version.Two (taking (codes "null") (codes "17")) ≡ bad_request (Some 3)
unfolding serde_json_on_literals is_utf8 chars encode_utf8 reading request_of ask_of added_of take_many_of raw_of
seventeen_takes = refl

no_takes : reading version.Two (taking (codes "null") (codes "0")) ≡ bad_request (Some 3)
unfolding serde_json_on_literals is_utf8 chars encode_utf8 reading request_of ask_of added_of take_many_of raw_of
no_takes = refl

nine_templates : reading version.Two (taking (codes "null,null,null,null,null,null,null,null,null") (codes "1")) ≡ bad_request (Some 3)
unfolding serde_json_on_literals is_utf8 chars encode_utf8 reading request_of ask_of added_of take_many_of raw_of
nine_templates = refl

no_template : reading version.Two (taking [] (codes "1")) ≡ bad_request (Some 3)
unfolding serde_json_on_literals is_utf8 chars encode_utf8 reading request_of ask_of added_of take_many_of raw_of
no_template = refl

a_match_set : reading version.Two (codes "{\"id\":4,\"op\":\"contents\",\"space\":\"a\",\"template\":null,\"lease\":-1,\"txn\":7}")
    ≡ request (record { id = 4; ask = ask.Contents (record { space = codes "a"; template = None; lease = negsuc 0; txn = Some (pos 7) }) })
unfolding serde_json_on_literals is_utf8 chars encode_utf8 reading request_of ask_of added_of contents_of
a_match_set = refl

a_match_set_without_a_template : reading version.Two (codes "{\"id\":4,\"op\":\"contents\",\"space\":\"a\",\"lease\":9}") ≡ bad_request (Some 4)
unfolding serde_json_on_literals is_utf8 chars encode_utf8 reading request_of ask_of added_of contents_of
a_match_set_without_a_template = refl

a_page : reading version.Two (codes "{\"id\":5,\"op\":\"next\",\"set\":4,\"most\":1}") ≡ request (record { id = 5; ask = ask.Next (pos 4) 1 })
unfolding serde_json_on_literals is_utf8 chars encode_utf8 reading request_of ask_of added_of next_of
a_page = refl

a_page_of_seventeen : reading version.Two (codes "{\"id\":5,\"op\":\"next\",\"set\":4,\"most\":17}") ≡ bad_request (Some 5)
unfolding serde_json_on_literals is_utf8 chars encode_utf8 reading request_of ask_of added_of next_of
a_page_of_seventeen = refl

a_closing : reading version.Two (codes "{\"id\":6,\"op\":\"close_set\",\"set\":-4}") ≡ request (record { id = 6; ask = ask.CloseSet (negsuc 3) })
unfolding serde_json_on_literals is_utf8 chars encode_utf8 reading request_of ask_of added_of close_set_of
a_closing = refl

a_closing_of_more : reading version.Two (codes "{\"id\":6,\"op\":\"close_set\",\"set\":4,\"most\":1}") ≡ bad_request (Some 6)
unfolding serde_json_on_literals is_utf8 chars encode_utf8 reading request_of ask_of added_of close_set_of
a_closing_of_more = refl
