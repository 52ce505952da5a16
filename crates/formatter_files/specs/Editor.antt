-- What is left of the settings of a file where the words ask for a layout too.
use Rattle.std.specs.Prelude.{None, if◌then◌else◌}
use Rattle.editor_config.specs.declared.settings.Settings.{Settings}
use Rattle.formatter_files.specs.declared.task.Task.{Task}

-- the settings of which the words say nothing
abbrev pub unsaid : Task → Settings → Settings
unsaid task settings = record settings {
  max_line_length = if task.has_width then None else settings.max_line_length;
  indent_style = if task.has_indent then None else settings.indent_style;
  indent_size = if task.has_indent then None else settings.indent_size;
}
