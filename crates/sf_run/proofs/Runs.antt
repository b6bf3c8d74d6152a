-- How a run ends, from what it comes to and from how its last step ends.
use Rattle.std.specs.Prelude.{◌⊎◌, IfSome}
use Rattle.std.proofs.Common.{◌≡◌, ◌<◌, ◌≤◌, ℕ, All, true, List, [], map, Option, Some, None, refl, ap, sym, subst, ◌∙◌, inl, inr, arith}
use Rattle.std.proofs.lemmas.List.{get_or-map, length-map}
use Rattle.sf_base.specs.Contents.{contents_of}
use Rattle.sf_base.specs.Faults.{Rose}
use Rattle.sf_base.specs.Seen.{FilesSeen, SinkSeen, OnlyReads}
use Rattle.sf_model.specs.FaultShown.{shown_by}
use Rattle.sf_words.specs.declared.refusal.Limit.{Limit}
use Rattle.sf_words.specs.declared.refusal.Limit.TheVariants.{Inputs}
use Rattle.sf_words.specs.declared.refusal.Refusal.{Refusal}
use Rattle.sf_words.specs.declared.refusal.Refusal.TheVariants as refusal
use Rattle.sf_words.specs.Loading.{AreBytesOf, AreLoaded, Contents, IsLoadingRefusal, IsLongCore, IsRead, NamesFailed, NeedsTooMuch, bytes_known}
use Rattle.sf_words.specs.Files.{counted_items, items_of}
use Rattle.sf_words.specs.Items.{ItemWords, is_core, name_of}
use Rattle.sf_words.proofs.Limits.{few_limit, many_limit}
use Rattle.section_commands.specs.declared.made.Made.{Made}
use Rattle.section_commands.specs.declared.made.Outcome.{Outcome}
use Rattle.section_commands.specs.declared.made.Outcome.TheVariants as outcome
use Rattle.section_commands.specs.Coming.{Coming, ComesWithin, Exceeded, MakesNoting}
use Rattle.section_commands.specs.Making.{ComesAs, coming_of}
use Rattle.section_commands.proofs.Making.{comes_as}
use Rattle.sf_run.specs.Comes.{AreItems, Comes, RefusesNothing, command_limit}
use Rattle.sf_run.specs.Commands.{CanBeAsked, CommandComes, CommandWords, files_of_command}
use Rattle.sf_run.proofs.EachCommand.{one_coming}
use Rattle.sf_run.specs.declared.status.Status.{Status}
use Rattle.sf_run.specs.declared.status.Status.TheVariants as status
use Rattle.sf_run.specs.Ends.{AnswersFor, Delivered, GivesUp, NoneFailed, RunComes, RunEnds, RunExceeds, RunIsComplete, RunRefuses, Seen, Tells, seen}
use Rattle.sf_run.specs.Status.{status_of}

-- ---- what a run comes to, from what it loads
pub made_runs : (command : CommandWords) (contents : Contents) (items : List (List ℕ)) → AreLoaded contents (items_of (files_of_command command)) items → (made : Made) → Comes command items (coming_of made)
    → RunComes command contents (coming_of made)
made_runs command contents items loaded made h = record { items = items; bytes = loaded.bytes; comes = h }

-- nothing was read
pub no_reads : (files : FilesSeen) → OnlyReads files files
no_reads files = record { later = omega arith; rest = refl }

-- what may be opened of all files may be opened of core files
pub opens_cores : (P : List ℕ → Type 0) (items : List ItemWords) → All P (map name_of items) → All (λ (item : ItemWords). is_core item ≡ true → P (name_of item)) items
opens_cores P items all = λ k d lt core. subst P (get_or-map name_of items k d (name_of d) lt) (all k (name_of d) (omega (arith, lt, length-map items name_of)))

-- what is refused of the bytes of items is no failed read
pub no_read : (P : Coming → Type 0) (refused : Refusal) → ComesAs P refused → IsRead refused → ⊥
no_read P (refusal.Read name) h read = h
no_read P refusal.Memory h read = read
no_read P (refusal.Limit limit) h read = read
no_read P (refusal.Input notice) h read = read

pub no_name : (P : Coming → Type 0) (failed : Option (List ℕ)) (refused : Refusal) → ComesAs P refused → NamesFailed failed refused
no_name P failed (refusal.Read name) h = absurd h
no_name P failed refusal.Memory h = tt
no_name P failed (refusal.Limit limit) h = tt
no_name P failed (refusal.Input notice) h = tt

refused_as : (command : CommandWords) (contents : Contents) (refused : Refusal) → ComesAs (RunComes command contents) refused → RunRefuses command contents refused
refused_as command contents (refusal.Read name) h = absurd h
refused_as command contents refusal.Memory h = h
refused_as command contents (refusal.Limit limit) h = inl h
refused_as command contents (refusal.Input notice) h = h

pub refused_runs : (command : CommandWords) (contents : Contents) (items : List (List ℕ)) → AreLoaded contents (items_of (files_of_command command)) items → (refused : Refusal) → ComesAs (Comes command items) refused
    → RunRefuses command contents refused
refused_runs command contents items loaded refused h =
    refused_as command contents refused
    (comes_as (Comes command items) (RunComes command contents) (λ coming comes. record { items = items; bytes = loaded.bytes; comes = comes }) refused h)

-- a limit of loading is what the command comes to
limit_comes : (command : CommandWords) (items : List (List ℕ)) (limit : Limit) → command_limit command items ≡ Some limit → Comes command items (Exceeded limit)
limit_comes command items limit h = subst (λ (l : Option Limit). ComesWithin l (CommandComes command items) (Exceeded limit)) (sym h) refl

-- loading refuses as the command does
pub loading_refuses : (command : CommandWords) (contents : Contents) (refused : Refusal) → counted_items (files_of_command command) ≤ 512 → IsLoadingRefusal contents (items_of (files_of_command command)) refused → RunRefuses command contents refused
loading_refuses command contents (refusal.Read name) few h = h
loading_refuses command contents refusal.Memory few h = tt
loading_refuses command contents (refusal.Limit limit) few (inl h) = inl record { items = h.files; bytes = h.bytes; comes = limit_comes command h.files limit (few_limit (files_of_command command) h.files few ∙ h.first) }
loading_refuses command contents (refusal.Limit limit) few (inr h) = inr h
loading_refuses command contents (refusal.Input notice) few h = absurd h

-- there are files that items name
some_files : (contents : Contents) (items : List ItemWords) → (files : List (List ℕ)) × AreBytesOf contents items files
some_files None items = (map (λ (item : ItemWords). []) items, record { are = tt; count = length-map items (λ (item : ItemWords). []) })
some_files (Some known) items = (bytes_known known items, record { are = refl; count = length-map items (λ (item : ItemWords). contents_of known (name_of item)) })

-- more than 512 files exceed the limit, whatever they hold
pub too_many_runs : (command : CommandWords) (contents : Contents) → 512 < counted_items (files_of_command command) → RunComes command contents (Exceeded Inputs)
too_many_runs command contents many =
    let files = some_files contents (items_of (files_of_command command)) in
    record { items = files.0; bytes = files.1; comes = limit_comes command files.0 Inputs (many_limit (files_of_command command) files.0 many) }

-- ---- how a run ends that makes nothing
pub ends_from_tells : (refused : Refusal) (answer : Status) (command : CommandWords) (before after : Seen) → OnlyReads before.files after.files → after.out ≡ before.out
    → (IsRead refused → Rose before.files.read_faults after.files.read_faults) → NamesFailed after.files.failed_name refused → RunRefuses command before.files.contents refused → Tells refused answer before.err after.err → RunEnds answer command before after
ends_from_tells (refusal.Read name) answer command before after reads out rose named h t =
    subst (λ (s : Status). RunEnds s command before after) (sym t.0) (name.now, h, record { files = reads; output = out; says = t.1 }, rose tt, named)
ends_from_tells refusal.Memory answer command before after reads out rose named h t =
    subst (λ (s : Status). RunEnds s command before after) (sym t.0) record { files = reads; output = out; says = t.1 }
ends_from_tells (refusal.Limit limit) answer command before after reads out rose named h t =
    subst (λ (s : Status). RunEnds s command before after) (sym t.0) (limit, h, record { files = reads; output = out; says = t.1 })
ends_from_tells (refusal.Input notice) answer command before after reads out rose named h t =
    subst (λ (s : Status). RunEnds s command before after) (sym t.0) (notice, h.0, h.1, record { files = reads; output = out; says = t.1 })

-- ---- how a run ends that delivers what it made
delivered : (answer : Status) (made : Outcome) (command : CommandWords) (section : Option (List ℕ)) (text notes : List ℕ) (before after : Seen) → RunComes command before.files.contents (MakesNoting made section text notes)
    → Delivered answer made ((files_of_command command).out) section text notes before after → RunEnds answer command before after
delivered answer outcome.Done command section text notes before after comes (inl d) =
    subst (λ (s : Status). RunEnds s command before after) (sym d.0) record { section = section; text = text; notes = notes; comes = comes; left = d.1 }
delivered answer outcome.Negative command section text notes before after comes (inl d) =
    subst (λ (s : Status). RunEnds s command before after) (sym d.0) record { section = section; text = text; notes = notes; comes = comes; left = d.1 }
delivered answer made command section text notes before after comes (inr d) =
    subst (λ (s : Status). RunEnds s command before after) (sym d.0) (made, record { section = section; text = text; notes = notes; comes = comes; left = d.1 })

pub ends_from_delivered : (answer : Status) (made : Outcome) (command : CommandWords) (file section : Option (List ℕ)) (text notes : List ℕ) (f g h : FilesSeen) (o o' e e' : SinkSeen) → file ≡ (files_of_command command).out → g ≡ f
    → RunComes command f.contents (MakesNoting made section text notes) → Delivered answer made file section text notes (seen g o e) (seen h o' e') → RunEnds answer command (seen f o e) (seen h o' e')
ends_from_delivered answer made command file section text notes f g h o o' e e' n same comes d =
    delivered answer made command section text notes (seen f o e) (seen h o' e') comes
    (subst (λ (x : Option (List ℕ)). Delivered answer made x section text notes (seen f o e) (seen h o' e')) n
    (subst (λ (k : FilesSeen). Delivered answer made file section text notes (seen k o e) (seen h o' e')) same d))

-- ---- completeness
answers_for : (answer : Status) (command : CommandWords) (known : List (List ℕ × List ℕ)) (before after : Seen) → before.files.contents ≡ Some known → AreItems command (bytes_known known (items_of (files_of_command command)))
    → RunEnds answer command before after → NoneFailed before after → AnswersFor answer command (bytes_known known (items_of (files_of_command command)))
answers_for answer command known before after e are ends fine = record { comes = λ coming comes. at_status coming comes answer ends; accepted = λ nothing. accepted nothing answer ends }
  where
    items : List (List ℕ)
    items = bytes_known known (items_of (files_of_command command))

    here : (coming : Coming) → RunComes command before.files.contents coming → Comes command items coming
    here coming h = subst (λ (is : List (List ℕ)). Comes command is coming) (subst (λ (c : Contents). IfSome c (λ k. h.items ≡ bytes_known k (items_of (files_of_command command)))) e h.bytes.are) h.comes

    same : (other coming : Coming) → Comes command items coming → RunComes command before.files.contents other → status_of other ≡ status_of coming
    same other coming comes h = ap status_of (one_coming command items other coming are (here other h) comes)

    -- a core file that has too many bytes has them in what the files hold
    gives_up : (limit : Limit) → NeedsTooMuch before.files.contents (items_of (files_of_command command)) limit → GivesUp status.Limit command items
    gives_up limit h =
        inr (refl, limit, subst (λ (is : List (List ℕ)). IsLongCore (items_of (files_of_command command)) is limit) (subst (λ (c : Contents). IfSome c (λ k. h.files ≡ bytes_known k (items_of (files_of_command command)))) e h.bytes.are) h.long)

    exceeds : (coming : Coming) → Comes command items coming → (limit : Limit) → RunExceeds command before.files.contents limit → (status.Limit ≡ status_of coming) ⊎ GivesUp status.Limit command items
    exceeds coming comes limit (inl h) = inl (same _ coming comes h)
    exceeds coming comes limit (inr h) = inr (gives_up limit h)

    at_status : (coming : Coming) → Comes command items coming → (answer : Status) → RunEnds answer command before after → (answer ≡ status_of coming) ⊎ GivesUp answer command items
    at_status coming comes status.Done h = inl (same _ coming comes h.comes)
    at_status coming comes status.Negative h = inl (same _ coming comes h.comes)
    at_status coming comes status.Usage h = absurd h
    at_status coming comes status.Read h = absurd (fine.reads h.3)
    at_status coming comes status.Write h = absurd (elim h.1.left [
      | inl failed ↦ fine.writes failed.cause
      | inr failed ↦ fine.output failed.cause
    ])
    at_status coming comes status.Refused h = inl (same _ coming comes h.2)
    at_status coming comes status.Memory h = inr (inl refl)
    at_status coming comes status.Limit h = exceeds coming comes h.0 h.1

    within : RefusesNothing command items → (limit : Limit) → RunExceeds command before.files.contents limit → GivesUp status.Limit command items
    within nothing limit (inl h) = absurd (nothing.within limit (here _ h))
    within nothing limit (inr h) = gives_up limit h

    accepted : RefusesNothing command items → (answer : Status) → RunEnds answer command before after → (answer ≡ status.Done) ⊎ ((answer ≡ status.Negative) ⊎ GivesUp answer command items)
    accepted nothing status.Done h = inl refl
    accepted nothing status.Negative h = inr (inl refl)
    accepted nothing status.Usage h = absurd h
    accepted nothing status.Read h = absurd (fine.reads h.3)
    accepted nothing status.Write h = absurd (elim h.1.left [
      | inl failed ↦ fine.writes failed.cause
      | inr failed ↦ fine.output failed.cause
    ])
    accepted nothing status.Refused h = absurd (nothing.accepted (shown_by h.0) (here _ h.2))
    accepted nothing status.Memory h = inr (inr (inl refl))
    accepted nothing status.Limit h = inr (inr (within nothing h.0 h.1))

pub complete_from : (answer : Status) (command : CommandWords) (before after : Seen) → CanBeAsked command → RunEnds answer command before after → RunIsComplete answer command before after
complete_from answer command before after form ends = at_contents before.files.contents refl
  where
    at_contents : (contents : Contents) → before.files.contents ≡ contents → IfSome contents (λ known. NoneFailed before after → AnswersFor answer command (bytes_known known (items_of (files_of_command command))))
    at_contents None e = tt
    at_contents (Some known) e =
        let count = length-map (items_of (files_of_command command)) (λ (item : ItemWords). contents_of known (name_of item)) in
        answers_for answer command known before after e record { asked = form; count = count } ends
