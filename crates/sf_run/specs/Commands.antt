-- The commands: which words ask for each, its files, and what it comes to over the bytes of these.
use Rattle.std.specs.Prelude.{ℕ, List}
use Rattle.sf_words.specs.Files.{FilesWords}
use Rattle.sf_words.specs.Forms.{SectionAndInputs, section_and_inputs_of}
use Rattle.sf_words.specs.Words.{SectionWords}
use Rattle.section_commands.specs.Coming.{Coming}
use Rattle.section_commands.specs.Dump.{DumpComes, IsDump, dump_files, dump_of}
use Rattle.section_commands.specs.Lookup.{IsLookup, LookupComes, LookupWords, lookup_files, lookup_of}
use Rattle.section_commands.specs.Merge.{IsMerge, MergeComes, MergeWords, merge_files, merge_of}
use Rattle.section_commands.specs.Procwalk.{IsProcwalk, ProcwalkComes, ProcwalkWords, procwalk_files, procwalk_of}
use Rattle.section_commands.specs.Slim.{IsSlim, SlimComes, SlimWords, slim_files, slim_of}
use Rattle.section_commands.specs.Upgrade.{IsUpgrade, UpgradeComes, UpgradeWords, upgrade_files, upgrade_of}
use Rattle.section_commands.specs.Walk.{IsWalk, WalkComes, WalkWords, walk_files, walk_of}
use Rattle.sf_run.specs.declared.command.Command.{Command}
use Rattle.sf_run.specs.declared.command.Command.TheVariants as command
use Rattle.sf_run.specs.Backtrace.{BacktraceComes, BacktraceWords, IsBacktrace, backtrace_files, backtrace_of}
use Rattle.sf_run.specs.Link.{IsLink, LinkComes, link_files}
use Rattle.sf_run.specs.LinkPlt.{IsLinkPlt, LinkPltComes}
use Rattle.sf_run.specs.Object.{GenComes, IsGen, gen_files}
use Rattle.sf_run.specs.Procbacktrace.{IsProcbacktrace, ProcbacktraceComes}
use Rattle.sf_run.specs.Verify.{IsVerify, VerifyComes, verify_files}

-- what a command line asks for
pub data CommandWords : Type 0 where
  Link : SectionAndInputs → CommandWords
  LinkPlt : SectionAndInputs → CommandWords
  Merge : MergeWords → CommandWords
  Slim : SlimWords → CommandWords
  Upgrade : UpgradeWords → CommandWords
  Dump : SectionWords → CommandWords
  Lookup : LookupWords → CommandWords
  Verify : SectionAndInputs → CommandWords
  Walk : WalkWords → CommandWords
  Backtrace : BacktraceWords → CommandWords
  Procwalk : ProcwalkWords → CommandWords
  Procbacktrace : ProcwalkWords → CommandWords
  Gen : (n : ℕ) → CommandWords

-- the words ask for this
abbrev pub IsCommand : List (List ℕ) → CommandWords → Type 0
IsCommand words (Link link) = IsLink words link
IsCommand words (LinkPlt link) = IsLinkPlt words link
IsCommand words (Merge merge) = IsMerge words merge
IsCommand words (Slim slim) = IsSlim words slim
IsCommand words (Upgrade upgrade) = IsUpgrade words upgrade
IsCommand words (Dump section) = IsDump words section
IsCommand words (Lookup lookup) = IsLookup words lookup
IsCommand words (Verify verify) = IsVerify words verify
IsCommand words (Walk walk) = IsWalk words walk
IsCommand words (Backtrace backtrace) = IsBacktrace words backtrace
IsCommand words (Procwalk procwalk) = IsProcwalk words procwalk
IsCommand words (Procbacktrace procbacktrace) = IsProcbacktrace words procbacktrace
IsCommand words (Gen n) = IsGen words n

-- the files that a command makes and reads
abbrev pub files_of_command : CommandWords → FilesWords
files_of_command (Link link) = link_files link
files_of_command (LinkPlt link) = link_files link
files_of_command (Merge merge) = merge_files merge
files_of_command (Slim slim) = slim_files slim
files_of_command (Upgrade upgrade) = upgrade_files upgrade
files_of_command (Dump section) = dump_files section
files_of_command (Lookup lookup) = lookup_files lookup
files_of_command (Verify verify) = verify_files verify
files_of_command (Walk walk) = walk_files walk
files_of_command (Backtrace backtrace) = backtrace_files backtrace
files_of_command (Procwalk procwalk) = procwalk_files procwalk
files_of_command (Procbacktrace procbacktrace) = procwalk_files procbacktrace
files_of_command (Gen n) = gen_files

-- what a command comes to over the bytes of the files that it reads, if these are within the limits
abbrev pub CommandComes : CommandWords → (items : List (List ℕ)) → Coming → Type 0
CommandComes (Link link) items coming = LinkComes link items coming
CommandComes (LinkPlt link) items coming = LinkPltComes link items coming
CommandComes (Merge merge) items coming = MergeComes merge items coming
CommandComes (Slim slim) items coming = SlimComes slim items coming
CommandComes (Upgrade upgrade) items coming = UpgradeComes upgrade items coming
CommandComes (Dump section) items coming = DumpComes section items coming
CommandComes (Lookup lookup) items coming = LookupComes lookup items coming
CommandComes (Verify verify) items coming = VerifyComes verify items coming
CommandComes (Walk walk) items coming = WalkComes walk items coming
CommandComes (Backtrace backtrace) items coming = BacktraceComes backtrace items coming
CommandComes (Procwalk procwalk) items coming = ProcwalkComes procwalk items coming
CommandComes (Procbacktrace procbacktrace) items coming = ProcbacktraceComes procbacktrace items coming
CommandComes (Gen n) items coming = GenComes n coming

-- what a command of the code asks for, without where its words are in memory
abbrev pub words_of : Command → CommandWords
words_of (command.Link link) = Link (section_and_inputs_of link)
words_of (command.LinkPlt link) = LinkPlt (section_and_inputs_of link)
words_of (command.Merge merge) = Merge (merge_of merge)
words_of (command.Slim slim) = Slim (slim_of slim)
words_of (command.Upgrade upgrade) = Upgrade (upgrade_of upgrade)
words_of (command.Dump dump) = Dump (dump_of dump)
words_of (command.Lookup lookup) = Lookup (lookup_of lookup)
words_of (command.Verify verify) = Verify (section_and_inputs_of verify)
words_of (command.Walk walk) = Walk (walk_of walk)
words_of (command.Backtrace backtrace) = Backtrace (backtrace_of backtrace)
words_of (command.Procwalk procwalk) = Procwalk (procwalk_of procwalk)
words_of (command.Procbacktrace named) = Procbacktrace (procwalk_of named)
words_of (command.Gen object) = Gen object.functions

-- the words have none of the forms
abbrev pub HasNoForm : List (List ℕ) → Type 0
HasNoForm words = (command : CommandWords) → IsCommand words command → ⊥

-- some words ask for this command
abbrev pub CanBeAsked : CommandWords → Type 0
CanBeAsked command = (words : List (List ℕ)) × IsCommand words command
