-- A run comes to one thing: to a limit of loading, or to what its command comes to.
use Rattle.std.proofs.Common.{◌≡◌, ℕ, List, All, Option, Some, None, refl, sym, ◌∙◌}
use Rattle.sf_model.specs.Section.{AreBytes}
use Rattle.sf_words.specs.declared.refusal.Limit.{Limit}
use Rattle.section_commands.specs.Coming.{Coming, ComesWithin, Exceeded}
use Rattle.section_commands.proofs.ComesToOne.{ComesToOne}
use Rattle.section_commands.proofs.MergeComes.{merge_comes_to_one}
use Rattle.section_commands.proofs.ProcwalkComes.{procwalk_comes_to_one}
use Rattle.section_commands.proofs.ShownComes.{dump_comes_to_one, lookup_comes_to_one}
use Rattle.section_commands.proofs.SlimComes.{slim_comes_to_one}
use Rattle.section_commands.proofs.UpgradeComes.{upgrade_comes_to_one}
use Rattle.section_commands.proofs.WalkComes.{walk_comes_to_one}
use Rattle.sf_run.specs.Comes.{AreItems, Comes, command_limit}
use Rattle.sf_run.specs.Commands.{CommandComes, CommandWords, IsCommand, files_of_command, Link, LinkPlt, Merge, Slim, Upgrade, Dump, Lookup, Verify, Walk, Backtrace, Procwalk, Procbacktrace, Gen}
use Rattle.sf_run.proofs.LinkingCommands.{backtrace_comes_to_one, gen_comes_to_one, link_comes_to_one, link_plt_comes_to_one, verify_comes_to_one}
use Rattle.sf_run.proofs.ProcbacktraceComes.{procbacktrace_comes_to_one}

comes_to_one : (command : CommandWords) → ComesToOne (λ words. IsCommand words command) (files_of_command command) (λ items coming. CommandComes command items coming)
comes_to_one (Link link) = link_comes_to_one link
comes_to_one (LinkPlt link) = link_plt_comes_to_one link
comes_to_one (Merge merge) = merge_comes_to_one merge
comes_to_one (Slim slim) = slim_comes_to_one slim
comes_to_one (Upgrade upgrade) = upgrade_comes_to_one upgrade
comes_to_one (Dump section) = dump_comes_to_one section
comes_to_one (Lookup lookup) = lookup_comes_to_one lookup
comes_to_one (Verify verify) = verify_comes_to_one verify
comes_to_one (Walk walk) = walk_comes_to_one walk
comes_to_one (Backtrace backtrace) = backtrace_comes_to_one backtrace
comes_to_one (Procwalk procwalk) = procwalk_comes_to_one procwalk
comes_to_one (Procbacktrace procbacktrace) = procbacktrace_comes_to_one procbacktrace
comes_to_one (Gen n) = gen_comes_to_one n

one_within : (limit : Option Limit) (Then : Coming → Type 0) → ((c d : Coming) → Then c → Then d → c ≡ d) → (c d : Coming) → ComesWithin limit Then c → ComesWithin limit Then d → c ≡ d
one_within (Some limit) Then one c d p q = p ∙ sym q
one_within None Then one c d p q = one c d p q

-- what a run comes to is one thing
pub one_coming : (command : CommandWords) (items : List (List ℕ)) (c d : Coming) → AreItems command items → Comes command items c → Comes command items d → c ≡ d
one_coming command items c d are p q = one_within _ (CommandComes command items) ((comes_to_one command).one are.asked items are.count) c d p q

within : (command : CommandWords) (items : List (List ℕ)) → (coming : Coming) × CommandComes command items coming → (limit : Option Limit) → (coming : Coming) × ComesWithin limit (CommandComes command items) coming
within command items some (Some limit) = (Exceeded limit, refl)
within command items some None = some

-- a run comes to something, on every list of bytes of its items
pub some_coming : (command : CommandWords) (items : List (List ℕ)) → AreItems command items → All AreBytes items → (coming : Coming) × Comes command items coming
some_coming command items are bytes = within command items ((comes_to_one command).some are.asked items are.count bytes) (command_limit command items)
