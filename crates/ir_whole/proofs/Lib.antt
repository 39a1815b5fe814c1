mod Numbered
mod Judging
mod Rows
